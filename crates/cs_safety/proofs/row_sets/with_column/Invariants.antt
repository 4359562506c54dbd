use Rattle.std.proofs.Common.{◌≡◌, ℕ, ◌<◌}
use Rattle.cs_schema.specs.CatalogData.{column}
use Rattle.cs_safety.specs.SafetyCuts.{first_sort, least_of}
use Rattle.cs_safety.specs.RowSets.{IsGrowing, HasValue, HasCuts}
use Rattle.cs_safety.proofs.row_sets.with_column.Given as goal

abbrev pub invariant-loop-p : goal.invariant-loop-p
invariant-loop-p l = record {
  growing : IsGrowing l.catalog l.loss l.c l.new;
  least : HasValue l.catalog l.loss l.c l.old l.new (least_of (column l.catalog l.c).kind);
  cuts : (p : ℕ) → p < l.p → first_sort l.catalog p ≡ l.c → HasCuts l.catalog l.loss l.c l.old l.new p;
}
