use Rattle.std.proofs.Common.{◌≡◌, ◌<◌, ◌+◌, ℕ, map, slice_get, vec_len}
use Rattle.cs_sites.specs.Placing.{folder_at}
use Rattle.cs_sites.proofs.placing.folders_of.Given as goal

abbrev pub invariant-loop-k : goal.invariant-loop-k
invariant-loop-k l = record {
  count : vec_len l.folders ≡ l.k;
  each : (k : ℕ) → k < l.k → slice_get (map (λ s. s.now) l.folders.items) k ≡ folder_at l.found (k + 1);
}
