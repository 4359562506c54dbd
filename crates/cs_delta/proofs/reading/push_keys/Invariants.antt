use Rattle.std.proofs.Common.{◌≡◌, ◌++◌, take}
use Rattle.std.specs.List.{filter_map}
use Rattle.cs_delta.specs.DeltaFile.{inserted_key}
use Rattle.cs_delta.proofs.reading.push_keys.Given as goal

abbrev pub invariant-loop-i : goal.invariant-loop-i
invariant-loop-i l = l.keys.items ≡ l.initial.keys.items ++ filter_map inserted_key (take l.i l.layer)
