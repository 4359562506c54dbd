use Rattle.std.proofs.Common.{◌≡◌, map, take, string_bytes}
use Rattle.std.specs.FinMap.{entries}
use Rattle.cs_schema.specs.FileNames.{file_path}
use Rattle.verb_cases.proofs.names.file_names.Given as goal

abbrev pub invariant-loop-i : goal.invariant-loop-i
invariant-loop-i l = map string_bytes l.names.items ≡ take l.i (map (λ file. file_path file.0) (entries l.files))
