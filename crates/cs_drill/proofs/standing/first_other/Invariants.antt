use Rattle.std.specs.FinMap.{entries}
use Rattle.cs_store.specs.FileSet.{contents_of}
use Rattle.cs_drill.specs.Drills.{StandBelow}
use Rattle.cs_drill.proofs.standing.first_other.Given as goal

-- the files so far stand byte for byte
abbrev pub invariant-loop-i : goal.invariant-loop-i
invariant-loop-i l = StandBelow (contents_of l.files) (entries l.rebuilt) l.i
