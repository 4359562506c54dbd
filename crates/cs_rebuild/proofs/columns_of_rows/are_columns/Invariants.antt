use Rattle.std.proofs.Common.{◌≡◌, ℕ, ◌<◌, length, get_or}
use Rattle.cs_schema.specs.declared.cells.Cells.{Cells}
use Rattle.cs_schema.specs.CatalogData.{column}
use Rattle.cs_schema.specs.Values.{values, kind_of}
use Rattle.cs_rows.specs.WalkedView.{count_of}
use Rattle.cs_rebuild.proofs.columns_of_rows.are_columns.Given as goal

-- the columns so far have their kinds, and the same length
abbrev pub invariant-loop-c : goal.invariant-loop-c
invariant-loop-c l = record {
  kinds : (k : ℕ) (d : Cells) → k < l.c → kind_of (get_or l.rows k d) ≡ (column l.catalog k).kind;
  even : (k : ℕ) (d : Cells) → k < l.c → length (values (get_or l.rows k d)) ≡ count_of l.rows;
}
