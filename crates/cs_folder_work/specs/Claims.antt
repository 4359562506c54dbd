-- A shelf that makes no claim.
use Rattle.std.proofs.Common.{arith}
use Rattle.cs_shelf.specs.Shelf.{ChangesNothing}

-- where there is no outcome, none is new
pub no_claim : {S : Type 0} (s t : S) → ChangesNothing {S = S} (λ s c. ⊥) (λ s c. ⊥) (λ s c. ⊥) (λ s. 0) (λ s t c. ⊥) s t
no_claim s t = record {
  held = λ c now. now;
  stop = λ c now. now;
  copies = λ c now. now;
  later = omega arith;
  before = λ m c le left. absurd left;
}
