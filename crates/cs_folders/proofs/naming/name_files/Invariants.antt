use Rattle.cs_file_system.specs.Calls.{Always, Extends}
use Rattle.cs_folders.specs.Naming.{AreNamed}
use Rattle.cs_folders.proofs.naming.name_files.Given as goal

abbrev pub invariant-loop-name : goal.invariant-loop-name
invariant-loop-name g l = Always (g.F.FileSystem.made l.files) (AreNamed l.folder l.names l.name-index) × Extends (g.F.FileSystem.made l.initial.files) (g.F.FileSystem.made l.files)
