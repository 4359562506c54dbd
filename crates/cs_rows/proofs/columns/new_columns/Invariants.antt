use Rattle.std.proofs.Common.{◌≡◌, ◌<◌, ℕ, [], length, get_or}
use Rattle.cs_schema.specs.declared.cells.Cells.{Cells}
use Rattle.cs_schema.specs.Values.{values, kind_of}
use Rattle.cs_schema.specs.CatalogData.{column}
use Rattle.cs_rows.proofs.columns.new_columns.Given as goal

abbrev pub invariant-loop-c : goal.invariant-loop-c
invariant-loop-c l = (length l.columns.items ≡ l.c) × ((k : ℕ) (d : Cells) → k < l.c → kind_of (get_or l.columns.items k d) ≡ (column l.catalog k).kind) × ((k : ℕ) (d : Cells) → k < l.c → values (get_or l.columns.items k d) ≡ [])
