use Rattle.std.proofs.Common.{◌≡◌, ℕ, ◌<◌, length}
use Rattle.std.specs.List.{slice_index}
use Rattle.cs_schema.specs.CatalogData.{has_join}
use Rattle.cs_safety.specs.Paths.{holds_column}
use Rattle.cs_safety.specs.NumberSets.{is_in}
use Rattle.cs_safety.proofs.graph.graph_of.Given as goal

abbrev pub invariant-loop-p : goal.invariant-loop-p
invariant-loop-p l = record {
  size : (length l.joins ≡ 8) × (length l.columns ≡ 8);
  joins : (p : ℕ) → p < l.p → (q : ℕ) → is_in (slice_index l.joins p) q ≡ has_join l.catalog p q;
  columns : (p : ℕ) → p < l.p → (c : ℕ) → is_in (slice_index l.columns p) c ≡ holds_column l.catalog p c;
}
