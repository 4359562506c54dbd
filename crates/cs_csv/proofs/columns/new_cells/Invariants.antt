use Rattle.std.proofs.Common.{◌≡◌, ℕ, [], map, take}
use Rattle.cs_csv.specs.Faults.{cells_at, kinds_of}
use Rattle.cs_csv.proofs.columns.new_cells.Given as goal

abbrev pub invariant-loop-c : goal.invariant-loop-c
invariant-loop-c l = record {
  kinds : kinds_of l.cells.items ≡ map (λ c. c.kind) (take l.c l.columns);
  none : (k : ℕ) → cells_at l.cells.items k ≡ [];
}
