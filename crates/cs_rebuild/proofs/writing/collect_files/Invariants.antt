use Rattle.std.proofs.Common.{◌≡◌, All, Some, length}
use Rattle.cs_rebuild.specs.OnStore.{written_on}
use Rattle.cs_rebuild.proofs.FilesToWrite.{IsLeftOrWritten}
use Rattle.cs_rebuild.proofs.writing.collect_files.Given as goal

-- under each name is a file that remains to be put, or the right one was put
abbrev pub invariant-loop-name : goal.invariant-loop-name
invariant-loop-name l = record {
  texts : All (λ file. written_on l.store file.0 ≡ Some file.1.items) l.made.items;
  left : IsLeftOrWritten (λ file. file.0) (written_on l.store) l.made.items l.files;
}

abbrev pub decreases-loop-name : goal.decreases-loop-name
decreases-loop-name l = length l.made.items
