use Rattle.std.proofs.Common.{take}
use Rattle.cs_parallel_io.specs.Standing.{standing}
use Rattle.pinepolo_verbs.specs.Changed.{AreChanged}
use Rattle.pinepolo_verbs.proofs.trusted.changed_files.Given as goal

-- those of the names so far
abbrev pub invariant-loop-name : goal.invariant-loop-name
invariant-loop-name g l = AreChanged l.catalog l.manifest (standing g.S.SharedSource.answers) (standing g.S.SharedSource.fails) l.source (take l.name-index l.unreadable) l.changed.items
