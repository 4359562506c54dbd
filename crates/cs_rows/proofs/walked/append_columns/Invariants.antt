use Rattle.std.proofs.Common.{◌≡◌, ◌<◌, ◌≤◌, ◌++◌, ℕ, length, get_or, take}
use Rattle.cs_schema.specs.declared.cells.Cells.{Cells}
use Rattle.cs_schema.specs.Values.{values, kind_of}
use Rattle.cs_rows.proofs.walked.append_columns.Given as goal

abbrev pub invariant-loop-cells : goal.invariant-loop-cells
invariant-loop-cells l =
    (length l.others.items ≤ length l.fn.columns.items)
    × (length l.columns.items ≡ length l.fn.columns.items)
    × (l.others.items ≡ take (length l.others.items) l.fn.others.items)
    × ((k : ℕ) (d : Cells) → k < length l.fn.columns.items → kind_of (get_or l.columns.items k d) ≡ kind_of (get_or l.fn.columns.items k d))
    × ((k : ℕ) (d : Cells) → k < length l.fn.columns.items → length l.others.items ≤ k → values (get_or l.columns.items k d) ≡ values (get_or l.fn.columns.items k d) ++ values (get_or l.fn.others.items k d))
    × ((k : ℕ) (d : Cells) → k < length l.others.items → get_or l.columns.items k d ≡ get_or l.fn.columns.items k d)

abbrev pub decreases-loop-cells : goal.decreases-loop-cells
decreases-loop-cells l = length l.others.items
