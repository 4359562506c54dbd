-- There is at most one plan.
use Rattle.std.proofs.Common.{◌≡◌, ℕ, suc, ◌<◌, ◌≤◌, refl, sym, ap, subst, ◌∙◌, ◌⊎◌, inl, inr, Option, Some, None, length, arith, slice_index}
use Rattle.std.specs.Option.{MatchOption}
use Rattle.std.proofs.lemmas.List.FromFn.{fill_by_all}
use Rattle.cs_schema.specs.CatalogData.{CatalogData}
use Rattle.cs_schema.specs.Losses.{Sites, alive}
use Rattle.cs_safety.specs.Paths.{IsReached}
use Rattle.cs_safety.specs.PlanData.{PlanData, IsPlan, IsPrev, IsSource, prev_of}
use Rattle.cs_safety.specs.SafetyLaws.{PlanIsOne}

module _ (C : CatalogData) (L : Sites) where
  abbrev PrevAt : ℕ → ℕ → Option ℕ → Type 0
  PrevAt a q o = MatchOption o ((q ≡ a) ⊎ ¬ IsReached C (alive C L) a q) (λ p. IsPrev C L a q p)

  not_both_prev : {A : Type 0} (a q p : ℕ) → (q ≡ a) ⊎ ¬ IsReached C (alive C L) a q → IsPrev C L a q p → A
  not_both_prev a q p (inl e) i = absurd (i.other e)
  not_both_prev a q p (inr n) i = absurd (n (suc i.nearer.nearer.0, i.nearer.nearer.1.1.path))

  one_prev : (a q : ℕ) (o o' : Option ℕ) → PrevAt a q o → PrevAt a q o' → o ≡ o'
  one_prev a q None None h k = refl
  one_prev a q None (Some p) h k = not_both_prev a q p h k
  one_prev a q (Some p) None h k = not_both_prev a q p k h
  one_prev a q (Some p) (Some p') h k = let x = h.least p' k.nearer in let y = k.least p h.nearer in let e : p ≡ p' = omega (arith, x, y) in ap Some e

  one_source : (a c q q' : ℕ) → IsSource C L a c q → IsSource C L a c q' → q ≡ q'
  one_source a c q q' s t = go (s.least q' t.distance t.at_distance t.column) (t.least q s.distance s.at_distance s.column)
    where
      go : (s.distance < t.distance) ⊎ ((s.distance ≡ t.distance) × (q ≤ q')) → (t.distance < s.distance) ⊎ ((t.distance ≡ s.distance) × (q' ≤ q)) → q ≡ q'
      go (inl x) (inl y) = absurd (omega arith)
      go (inl x) (inr y) = let z = y.0 in absurd (omega arith)
      go (inr x) (inl y) = let z = x.0 in absurd (omega arith)
      go (inr x) (inr y) = let u = x.1 in let v = y.1 in omega arith

  both_plans : (P Q : PlanData) → IsPlan C L P → IsPlan C L Q → P ≡ Q
  both_plans P Q i j =
      let x = i.least Q.anchor j.anchor in
      let y = j.least P.anchor i.anchor in
      let e : P.anchor ≡ Q.anchor = omega arith in
      let f : (q : ℕ) → q < length C.projections → prev_of P q ≡ prev_of Q q = λ q h. one_prev P.anchor q (prev_of P q) (prev_of Q q) (i.prev q h) (subst (λ a. PrevAt a q (prev_of Q q)) (sym e) (j.prev q h)) in
      let g : (c : ℕ) → c < length C.columns → slice_index P.source c ≡ slice_index Q.source c = λ c h. one_source P.anchor c (slice_index P.source c) (slice_index Q.source c) (i.source c h) (subst (λ a. IsSource C L a c (slice_index Q.source c)) (sym e) (j.source c h)) in
      let prevs : P.prev ≡ Q.prev = fill_by_all (prev_of Q) P.prev (length C.projections) None i.prevs f ∙ sym (fill_by_all (prev_of Q) Q.prev (length C.projections) None j.prevs (λ k h. refl)) in
      let sources : P.source ≡ Q.source = fill_by_all (slice_index Q.source) P.source (length C.columns) 0 i.sources g ∙ sym (fill_by_all (slice_index Q.source) Q.source (length C.columns) 0 j.sources (λ k h. refl)) in
      λ k. record { anchor = e k; prev = prevs k; source = sources k }

pub one_plan : PlanIsOne
one_plan C L P Q = both_plans C L P Q
