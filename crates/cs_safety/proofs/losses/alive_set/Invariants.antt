use Rattle.std.proofs.Common.{◌≡◌, ℕ, ◌<◌, ◌≤◌, false}
use Rattle.cs_schema.specs.Losses.{alive}
use Rattle.cs_safety.specs.NumberSets.{is_in}
use Rattle.cs_safety.proofs.losses.alive_set.Given as goal

abbrev pub invariant-loop-p : goal.invariant-loop-p
invariant-loop-p l = record {
  known : (p : ℕ) → p < l.p → is_in l.set p ≡ alive l.catalog l.loss p;
  later : (p : ℕ) → l.p ≤ p → is_in l.set p ≡ false;
}
