use Rattle.std.proofs.Common.{◌≡◌, ℕ, ◌<◌, true, ◌⊎◌, bit_or, length}
use Rattle.cs_safety.specs.RowSets.{among}
use Rattle.cs_safety.proofs.row_sets.add_joined.Given as goal

abbrev pub invariant-loop-s : goal.invariant-loop-s
invariant-loop-s l = record {
  size : length l.new ≡ 256;
  stays : (s : ℕ) → among l.initial.new s ≡ true → among l.new s ≡ true;
  has : (t : ℕ) → t < l.s → among l.old t ≡ true → (bit_or t l.kept < 256) × (among l.new (bit_or t l.kept) ≡ true);
  from : (s : ℕ) → among l.new s ≡ true → (among l.initial.new s ≡ true) ⊎ ((t : ℕ) × (t < 256) × (among l.old t ≡ true) × (s ≡ bit_or t l.kept));
}
