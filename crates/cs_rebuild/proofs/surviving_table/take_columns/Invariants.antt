use Rattle.std.proofs.Common.{◌≡◌, ◌<◌, ◌≤◌, ℕ, length, map, get_or}
use Rattle.cs_schema.specs.declared.cells.Cells.{Cells}
use Rattle.cs_order.specs.Orders.{row_at}
use Rattle.cs_rows.specs.TableView.{over}
use Rattle.cs_rows.specs.WalkedView.{count_of, rows_of}
use Rattle.cs_rebuild.specs.Walking.{IsColumnOf}
use Rattle.cs_rebuild.proofs.surviving_table.take_columns.Given as goal

abbrev pub invariant-loop-c : goal.invariant-loop-c
invariant-loop-c l = record {
  owned : length l.owned.items ≡ length l.fn.owned.items;
  rest : (k : ℕ) (d : Cells) → l.c ≤ k → get_or l.owned.items k d ≡ get_or l.fn.owned.items k d;
  count : length l.columns.items ≡ l.c;
  each : (k : ℕ) (d : Cells) → k < l.c → IsColumnOf l.catalog (map (row_at (rows_of (over l.fn.owned.items l.borrowed) (count_of (over l.fn.owned.items l.borrowed)))) l.numbers) k (get_or l.columns.items k d);
}
