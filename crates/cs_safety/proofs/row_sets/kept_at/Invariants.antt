use Rattle.std.proofs.Common.{◌≡◌, ℕ, ◌<◌, ◌≤◌, false}
use Rattle.cs_safety.specs.NumberSets.{is_in}
use Rattle.cs_safety.specs.RowSets.{keeps}
use Rattle.cs_safety.proofs.row_sets.kept_at.Given as goal

abbrev pub invariant-loop-p : goal.invariant-loop-p
invariant-loop-p l = record {
  known : (p : ℕ) → p < l.p → is_in l.set p ≡ keeps l.catalog l.loss l.column l.value p;
  later : (p : ℕ) → l.p ≤ p → is_in l.set p ≡ false;
}
