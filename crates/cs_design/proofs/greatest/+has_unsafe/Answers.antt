use Rattle.std.proofs.Common.{◌≡◌, ◌+◌, ◌-◌, ◌++◌, ◌∷◌, Bool, true, false, not, refl, sym, subst, ◌∙◌, arith, inl, inr}
use Rattle.std.specs.Prelude.{MatchBool}
use Rattle.std.proofs.lemmas.Bool.{cases_lt}
use Rattle.cs_schema.proofs.Ascending.{false≢true}
use Rattle.cs_safety.specs.Safety.{IsSafe}
use Rattle.cs_safety.specs.LossSearch.{IsTail}
use Rattle.cs_safety.proofs.LossTails.{placed_last}
use Rattle.cs_design.specs.Fatal.{either}
use Rattle.cs_design.specs.Tails.{HasUnsafeTail, AreTailsSafe}
use Rattle.cs_design.proofs.Tails.{safe_alone, unsafe_alone, unsafe_with, safe_with_site, all_safe}
use Rattle.cs_design.proofs.greatest.+has_unsafe.Goals as goal

decided : (b : Bool) (S U A : Type 0) → (b ≡ true → S) → (S → b ≡ true) → (S → A) → (¬ S → U) → MatchBool (not b) U A
decided true S U A f g a u = a (f refl)
decided false S U A f g a u = u (λ s. false≢true (g s))

pub returns-then-count-eq0 : goal.returns-then-count-eq0
returns-then-count-eq0 t c =
    let C = c.args.catalog.now in
    let K = c.args.lost in
    let S : Type 0 = IsSafe C (either K c.args.chosen) in
    decided c.safe_with.result S (HasUnsafeTail C K c.args.chosen c.args.from c.args.count) (AreTailsSafe C K c.args.chosen c.args.from c.args.count) c.safe_with.ensures.0 c.safe_with.ensures.1
    (safe_alone C K c.args.chosen c.args.from c.args.count c.if-count-eq0.true) (unsafe_alone C K c.args.chosen c.args.from c.args.count c.if-count-eq0.true)

pub returns-then-has_unsafe : goal.returns-then-has_unsafe
returns-then-has_unsafe t c =
    let low = c.loop-site.auto.site in
    let W = c.with.ensures.place ∙ placed_last c.loop-site.site c.args.chosen (λ x m. let b = c.requires.below x m in omega (arith, b, low)) in
    let high = c.loop-site-test.true in
    let sites = c.site_count-site-end.ensures.count in
    let some = c.if-count-eq0.false in
    unsafe_with c.args.catalog.now c.args.lost c.args.chosen c.args.from c.args.count c.loop-site.site c.with.result W low (omega (arith, high, sites)) (omega (arith, some)) c.if-has_unsafe.ensures

pub loop-site-preserved : goal.loop-site-preserved
loop-site-preserved t c x T l h k =
    let low = c.loop-site.auto.site in
    let W = c.with.ensures.place ∙ placed_last c.loop-site.site c.args.chosen (λ x m. let b = c.requires.below x m in omega (arith, b, low)) in
    elim (cases_lt x c.loop-site.site) [
      | inl b ↦ c.loop-site.invariant x T l b k
      | inr b ↦
          let e : x ≡ c.loop-site.site = omega arith in
          let safe = safe_with_site c.args.catalog.now c.args.lost c.args.chosen c.args.from (c.args.count - 1) c.loop-site.site c.with.result W c.if-has_unsafe.ensures T (subst (λ y. IsTail c.args.catalog.now (y + 1) (c.args.count - 1) T) e k) in
          subst (λ y. IsSafe c.args.catalog.now (either c.args.lost (c.args.chosen ++ y ∷ T))) (sym e) safe
    ]

pub returns : goal.returns
returns t c =
    let some = c.if-count-eq0.false in
    let sites = c.site_count-site-end.ensures.count in
    let done = c.loop-site-test.false in
    all_safe c.args.catalog.now c.args.lost c.args.chosen c.args.from c.args.count c.loop-site.site (omega (arith, some)) (omega (arith, sites, done)) c.loop-site.invariant
