use Rattle.std.proofs.Common.{take}
use Rattle.cs_file_system.specs.Calls.{IsNoMore}
use Rattle.cs_folder_work.specs.Folders.{IsFolderAt}
use Rattle.cs_folder_work.proofs.FolderLemmas.{AreParted}
use Rattle.cs_folder_work.proofs.store_folders.StoreFolders.parts.Given as goal

abbrev pub invariant-loop-name : goal.invariant-loop-name
invariant-loop-name g l = record {
  parted : AreParted g.F.FileSystem.has_identity l.self l.names (take l.name-index l.name-items) l.parts.items l.part;
  at : IsFolderAt g.F.FileSystem.has_identity l.self l.last l.part.folder.now;
  same : IsNoMore (g.F.FileSystem.made l.initial.files) (g.F.FileSystem.made l.files);
}
