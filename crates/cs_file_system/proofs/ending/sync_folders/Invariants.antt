use Rattle.std.proofs.Common.{map, take, string_bytes}
use Rattle.cs_file_system.specs.Calls.{AddsAll}
use Rattle.cs_file_system.specs.Ending.{folders_synced}
use Rattle.cs_file_system.proofs.ending.sync_folders.Given as goal

abbrev pub invariant-loop-folder : goal.invariant-loop-folder
invariant-loop-folder g l = AddsAll (folders_synced (map string_bytes (take l.folder-index l.folders))) (g.F.FileSystem.made l.initial.files) (g.F.FileSystem.made l.files)
