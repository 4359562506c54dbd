use Rattle.std.proofs.Common.{◌≡◌, take}
use Rattle.std.specs.List.{filter_map}
use Rattle.cs_manifest.specs.Comparisons.{file_difference}
use Rattle.cs_manifest.proofs.comparing.compare.Given as goal

abbrev pub invariant-loop-name : goal.invariant-loop-name
invariant-loop-name l = l.differing.items ≡ filter_map (file_difference l.manifest) (take l.name-index l.files)
