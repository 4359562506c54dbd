-- The row that a plan's walk reaches in a projection follows from the one that it reaches in the projection before.
use Rattle.std.proofs.Common.{◌≡◌, ℕ, zero, suc, ◌<◌, ◌≤◌, length, refl, sym, ap, ◌∙◌, subst, arith, Option, Some, None, ◌⊎◌, inl, inr}
use Rattle.std.specs.Prelude.{MatchOption}
use Rattle.std.specs.Option.{option_and_then}
use Rattle.cs_schema.specs.CatalogData.{CatalogData}
use Rattle.cs_schema.specs.Losses.{Sites, alive}
use Rattle.cs_safety.specs.PlanData.{PlanData, IsPlan, IsPrev, prev_of}
use Rattle.cs_safety.specs.Paths.{IsReached, IsDistance, Path}
use Rattle.cs_rows.specs.Walk.{Contents, At, follow, stand, stands}
use Rattle.cs_safety.proofs.Distances.{path_exists, path_zero, distance_one, distance_below}
use Rattle.cs_rows.proofs.StepLemmas.{stand_anchor, stand_enters}

module _ (C : CatalogData) (L : Sites) (S : Contents) (P : PlanData) (plan : IsPlan C L P) (at : At) where
  abbrev pub Near : ℕ → ℕ → Type 0
  Near q n = IsDistance C (alive C L) P.anchor q n

  pub record Before (q n : ℕ) : Type 0 where
    pub from : ℕ
    pub is : prev_of P q ≡ Some from
    pub near : Near from n

  not_anchor : (q n : ℕ) → Near q (suc n) → q ≡ P.anchor → ⊥
  not_anchor q n d e =
      let l : suc n ≤ 0 = d.least 0 (subst (λ x. Path C (alive C L) P.anchor x 0) (sym e) Path.start) in
      omega arith

  before_of : (q n : ℕ) → Near q (suc n) → (o : Option ℕ) → prev_of P q ≡ o → MatchOption o ((q ≡ P.anchor) ⊎ ¬ IsReached C (alive C L) P.anchor q) (λ p. IsPrev C L P.anchor q p) → Before q n
  before_of q n d None e (inl a) = absurd (not_anchor q n d a)
  before_of q n d None e (inr r) = absurd (r (suc n, d.path))
  before_of q n d (Some p) e h =
      let j : ℕ = h.nearer.nearer.0 in
      let same : suc j ≡ suc n = distance_one C (alive C L) P.anchor q (suc j) (suc n) h.nearer.nearer.1.1 d in
      let k : j ≡ n = omega arith in
      record { from = p; is = e; near = subst (Near p) k h.nearer.nearer.1.0 }

  pub before : (q n : ℕ) → Near q (suc n) → Before q n
  before q n d = before_of q n d (prev_of P q) refl (plan.prev q (path_exists C (alive C L) P.anchor plan.anchor.exists q (suc n) d.path))

  enters : (q n m : ℕ) → (d : Near q (suc n)) → (b : Before q n) → stands C S P at (suc m) q ≡ option_and_then (follow C S b.from q) (stands C S P at m b.from)
  enters q n m d b =
      sym (stand_enters C S P at (suc m) m q (not_anchor q n d) (omega arith))
      ∙ ap (λ (o : Option ℕ). option_and_then (λ (p : ℕ). option_and_then (follow C S p q) (stands C S P at m p)) o) b.is

  -- more steps than the distance change nothing
  pub steps_enough : (n q m : ℕ) → Near q n → n ≤ m → stands C S P at m q ≡ stands C S P at n q
  steps_enough zero q m d h =
      let a : q ≡ P.anchor = path_zero C (alive C L) P.anchor q d.path in
      sym (stand_anchor C S P at m q a) ∙ stand_anchor C S P at 0 q a
  steps_enough (suc n) q zero d h = absurd (omega arith)
  steps_enough (suc n) q (suc m) d h =
      let b = before q n d in
      enters q n m d b ∙ ap (option_and_then (follow C S b.from q)) (steps_enough n b.from m b.near (omega arith)) ∙ sym (enters q n n d b)

  -- the walk's row in q is one step from its row in the projection before q
  pub stand_by_prev : (q n p : ℕ) → Near q (suc n) → prev_of P q ≡ Some p → stand C S P at q ≡ option_and_then (follow C S p q) (stand C S P at p)
  stand_by_prev q n p d e =
      let b = before q n d in
      let same : b.from ≡ p = Rattle.std.proofs.lemmas.Option.same_Some b.from p (sym b.is ∙ e) in
      let l : suc n < length C.projections = distance_below C (alive C L) P.anchor plan.anchor.exists q (suc n) d in
      steps_enough (suc n) q (length C.projections) d (omega arith)
      ∙ enters q n n d b
      ∙ ap (option_and_then (follow C S b.from q)) (sym (steps_enough n b.from (length C.projections) b.near (omega arith)))
      ∙ ap (λ (x : ℕ). option_and_then (follow C S x q) (stand C S P at x)) same
