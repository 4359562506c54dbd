use Rattle.cs_file_system.specs.Calls.{Always}
use Rattle.cs_folders.specs.Naming.{AreWhole}
use Rattle.cs_folders.proofs.naming.name_catalogs.Given as goal

abbrev pub invariant-loop-site : goal.invariant-loop-site
invariant-loop-site g l = Always (g.F.FileSystem.made l.files) (AreWhole l.sites l.site-index)
