use Rattle.std.proofs.Common.{◌≡◌, ℕ, ◌≤◌, Some, length, take}
use Rattle.std.specs.List.{slice_get}
use Rattle.cs_store.specs.FileSet.{contents_of}
use Rattle.cs_rebuild.specs.Reading.{IsKept, resealed}
use Rattle.cs_rebuild.proofs.reading.FilesWork.keep_all.Given as goal

abbrev pub invariant-loop-held : goal.invariant-loop-held
invariant-loop-held g l = record {
  rest : l.all.items ≡ take (length l.all.items) l.fn.all.items;
  catalog : l.survivors.catalog ≡ l.self.catalog.now;
  kept : (k : ℕ) (a : ℕ × ℕ) → length l.all.items ≤ k → slice_get l.self.segments.now k ≡ Some a → IsKept l.self.catalog.now (resealed (contents_of l.self.files.now)) l.survivors a;
}

abbrev pub decreases-loop-held : goal.decreases-loop-held
decreases-loop-held g l = length l.all.items
