use Rattle.std.proofs.Common.{take}
use Rattle.cs_file_system.specs.Calls.{Always}
use Rattle.cs_folder_work.specs.Keeping.{Become}
use Rattle.cs_folder_work.proofs.keeping.keep_names.Given as goal

abbrev pub invariant-loop-name : goal.invariant-loop-name
invariant-loop-name g l = Always (g.F.FileSystem.made l.files) (Become l.store l.folder (take l.name-index l.names) l.changes.items)
