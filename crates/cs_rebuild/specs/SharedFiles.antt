-- The files of a store, as one reader has them.
use Rattle.std.specs.Prelude.{Option, Some, None}
use Rattle.std.specs.Arc.{arc_value}
use Rattle.cs_store.specs.FileSet.{Files}
use Rattle.cs_rebuild.specs.declared.shared_files.SharedFiles.{SharedFiles}

-- the files, unless they were released
abbrev pub shared_files : SharedFiles → Option Files
shared_files (SharedFiles.Borrowed files) = Some files.now
shared_files (SharedFiles.Shared files) = Some (arc_value files)
shared_files SharedFiles.Released = None
