use Rattle.std.proofs.Common.{◌≡◌, ℕ, ◌+◌, ◌-◌, ◌<◌, ◌≤◌, ◌++◌, List, [], ◌∷◌, sym, ap, subst, ◌∙◌, arith, inl, inr}
use Rattle.std.proofs.lemmas.Bool.{cases_lt}
use Rattle.cs_schema.specs.CatalogData.{CatalogData}
use Rattle.cs_schema.specs.Losses.{Sites}
use Rattle.cs_safety.specs.Safety.{IsSafe}
use Rattle.cs_safety.specs.LossSearch.{IsTail}
use Rattle.cs_schema.proofs.Ascending.{false≢true}
use Rattle.cs_safety.proofs.LossTails.{placed_last, then_joined, unsafe_from, chosen_unsafe, head_low, head_high, tail_rest}
use Rattle.cs_safety.proofs.ksafety.+first_unsafe.Goals as goal

pub returns-else-is_safe : goal.returns-else-is_safe
returns-else-is_safe t c =
    chosen_unsafe c.args.catalog.now c.args.chosen c.args.from c.args.count c.if-count-eq0.true (λ s. false≢true (sym c.if-is_safe.false ∙ c.is_safe.ensures.1 s))

pub returns-in-Some : goal.returns-in-Some
returns-in-Some t c =
    let low = c.loop-site.auto.site in
    let W = c.with.ensures.place ∙ placed_last c.loop-site.site c.args.chosen (λ x m. let b = c.requires.below x m in omega (arith, b, low)) in
    let high = c.loop-site-test.true in
    let sites = c.site_count-site-end.ensures.count in
    let some = c.if-count-eq0.false in
    unsafe_from c.args.catalog.now c.args.chosen c.with.result c.args.from c.args.count c.loop-site.site c.in-Some.loss W low (omega (arith, high, sites)) (omega (arith, some)) c.loop-site.invariant c.in-Some.ensures

pub loop-site-preserved : goal.loop-site-preserved
loop-site-preserved t c x T l h k =
    let low = c.loop-site.auto.site in
    let W = c.with.ensures.place ∙ placed_last c.loop-site.site c.args.chosen (λ x m. let b = c.requires.below x m in omega (arith, b, low)) in
    elim (cases_lt x c.loop-site.site) [
      | inl b ↦ c.loop-site.invariant x T l b k
      | inr b ↦
          let e : x ≡ c.loop-site.site = omega arith in
          let safe = c.in-None.ensures T (subst (λ y. IsTail c.args.catalog.now (y + 1) (c.args.count - 1) T) e k) in
          let moved : IsSafe c.args.catalog.now (c.args.chosen ++ c.loop-site.site ∷ T) = subst (λ V. IsSafe c.args.catalog.now V) (ap (λ V. V ++ T) W ∙ then_joined c.args.chosen c.loop-site.site T) safe in
          subst (λ y. IsSafe c.args.catalog.now (c.args.chosen ++ y ∷ T)) (sym e) moved
    ]

all_safe : (C : CatalogData) (chosen : Sites) (from count end : ℕ) → 1 ≤ count → C.sites + 1 ≤ end
    → ((x : ℕ) (T : List ℕ) → from ≤ x → x < end → IsTail C (x + 1) (count - 1) T → IsSafe C (chosen ++ x ∷ T))
    → (T : Sites) → IsTail C from count T → IsSafe C (chosen ++ T)
all_safe C chosen from count end one h earlier [] t = let e = t.size in absurd (omega (arith, e))
all_safe C chosen from count end one h earlier (x ∷ T) t =
    let b = head_high C from count x T t in
    earlier x T (head_low C from count x T t) (omega (arith, b)) (tail_rest C from count x T t)

pub returns : goal.returns
returns t c =
    let some = c.if-count-eq0.false in
    let sites = c.site_count-site-end.ensures.count in
    let done = c.loop-site-test.false in
    all_safe c.args.catalog.now c.args.chosen c.args.from c.args.count c.loop-site.site (omega (arith, some)) (omega (arith, sites, done)) c.loop-site.invariant
