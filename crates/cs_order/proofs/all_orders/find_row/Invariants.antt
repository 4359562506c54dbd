use Rattle.std.proofs.Common.{ℕ, ◌<◌, []}
use Rattle.std.specs.Prelude.{Contains, slice_index_or}
use Rattle.cs_order.proofs.all_orders.find_row.Given as goal

abbrev pub invariant-loop-s : goal.invariant-loop-s
invariant-loop-s l = (t : ℕ) → t < l.s → Contains (slice_index_or l.segments t []) l.row → ⊥
