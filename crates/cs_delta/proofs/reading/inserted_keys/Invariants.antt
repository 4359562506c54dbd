use Rattle.std.proofs.Common.{◌≡◌, take}
use Rattle.std.specs.List.{filter_map, flat_map}
use Rattle.cs_delta.specs.DeltaFile.{inserted_key}
use Rattle.cs_delta.proofs.reading.inserted_keys.Given as goal

abbrev pub invariant-loop-layer : goal.invariant-loop-layer
invariant-loop-layer l = l.keys.items ≡ flat_map (filter_map inserted_key) (take l.layer-index l.layers)
