use Rattle.std.proofs.Common.{map, take, string_bytes}
use Rattle.cs_folder_work.proofs.SyncLemmas.{AreFolders}
use Rattle.cs_folder_work.proofs.syncing.folders_of.Given as goal

abbrev pub invariant-loop-part : goal.invariant-loop-part
invariant-loop-part g l = AreFolders g.F.FileSystem.has_identity l.folders l.names (take l.part-index l.part-items) (map string_bytes l.paths.items)
