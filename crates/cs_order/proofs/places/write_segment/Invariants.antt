use Rattle.std.proofs.Common.{◌≡◌, ℕ, length, take}
use Rattle.std.specs.Prelude.{Contains, slice_index}
use Rattle.cs_order.specs.Places.{IsThere}
use Rattle.cs_order.proofs.places.write_segment.Given as goal

abbrev pub invariant-loop-index : goal.invariant-loop-index
invariant-loop-index l = record {
  there : (r : ℕ) → Contains (take l.index l.rows) r → IsThere l.rows l.s r (slice_index l.places r);
  others : (r : ℕ) → (Contains l.rows r → ⊥) → slice_index l.places r ≡ slice_index l.initial.places r;
  long : length l.places ≡ length l.initial.places;
}
