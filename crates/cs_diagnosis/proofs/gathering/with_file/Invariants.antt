use Rattle.std.proofs.Common.{◌↔◌}
use Rattle.cs_schema.specs.Losses.{Sites}
use Rattle.cs_diagnosis.specs.Conflicts.{AreAllHit}
use Rattle.cs_diagnosis.proofs.Gathered.{PairsBelow}
use Rattle.cs_diagnosis.proofs.gathering.with_file.Given as goal

-- the pairs with the sites so far are among them
abbrev pub invariant-loop-other : goal.invariant-loop-other
invariant-loop-other l = (L : Sites) → AreAllHit l.all L ↔ (AreAllHit l.fn.conflicts L × PairsBelow L l.fn.site l.others l.other)
