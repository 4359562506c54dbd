use Rattle.std.proofs.Common.{◌≡◌, ◌<◌, ℕ, length, map, get_or}
use Rattle.cs_schema.specs.declared.cells.Cells.{Cells}
use Rattle.cs_schema.specs.Values.{values, kind_of}
use Rattle.cs_schema.specs.CatalogData.{column}
use Rattle.cs_schema.specs.Rows.{cell}
use Rattle.cs_rows.specs.PlanWalks.{followed_rows}
use Rattle.cs_rows.proofs.plan_walk.PlanWalk.gather_columns.Given as goal

abbrev pub invariant-loop-c : goal.invariant-loop-c
invariant-loop-c l = record {
  count : length l.columns.items ≡ l.c;
  kinds : (k : ℕ) (d : Cells) → k < l.c → kind_of (get_or l.columns.items k d) ≡ (column l.self.survivors.now.catalog k).kind;
  cells : (k : ℕ) (d : Cells) → k < l.c → values (get_or l.columns.items k d) ≡ map (λ row. cell row k) (followed_rows l.self l.parts);
}
