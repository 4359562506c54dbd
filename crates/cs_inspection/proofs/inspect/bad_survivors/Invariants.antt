use Rattle.std.proofs.Common.{take}
use Rattle.cs_store.specs.FileSet.{contents_of}
use Rattle.cs_inspection.specs.BadFiles.{AreBadAmong}
use Rattle.cs_inspection.proofs.inspect.bad_survivors.Given as goal

abbrev pub invariant-loop-name : goal.invariant-loop-name
invariant-loop-name g l = AreBadAmong l.catalog (contents_of l.files) l.unreadable (take l.name-index l.name-items) l.bad.items
