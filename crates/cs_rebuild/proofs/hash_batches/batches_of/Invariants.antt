use Rattle.std.proofs.Common.{◌≡◌, ℕ, ◌<◌, length}
use Rattle.std.specs.Prelude.{slice_index_or}
use Rattle.cs_rebuild.proofs.hash_batches.batches_of.Given as goal

-- the batches so far
abbrev pub invariant-loop-file : goal.invariant-loop-file
invariant-loop-file l = record {
  count : length l.lengths.items ≡ l.fn.count;
  each : length l.batches.items ≡ l.file-index;
  below : (k : ℕ) → k < length l.batches.items → slice_index_or l.batches.items k 0 < l.fn.count;
}
