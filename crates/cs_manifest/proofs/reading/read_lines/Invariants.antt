use Rattle.std.proofs.Common.{map, take}
use Rattle.cs_manifest.specs.Reading.{AreLinesOf}
use Rattle.cs_manifest.proofs.reading.read_lines.Given as goal

abbrev pub invariant-loop-i : goal.invariant-loop-i
invariant-loop-i l = AreLinesOf (map (λ x. x.now) (take l.i l.lines)) l.manifest
