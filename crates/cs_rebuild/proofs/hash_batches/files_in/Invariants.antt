use Rattle.std.proofs.Common.{◌≡◌, ℕ, ◌<◌, List, Bor, Some}
use Rattle.std.specs.Prelude.{slice_index_or}
use Rattle.std.specs.List.{slice_get}
use Rattle.cs_schema.specs.Lists.{IsIn}
use Rattle.cs_rebuild.proofs.hash_batches.files_in.Given as goal

-- the batch's files so far
abbrev pub invariant-loop-i : goal.invariant-loop-i
invariant-loop-i l = (k : ℕ) (f : Bor (List ℕ)) → k < l.i → slice_get l.files k ≡ Some f → slice_index_or l.batches k 0 ≡ l.batch → IsIn f l.own.items
