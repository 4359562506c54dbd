use Rattle.std.proofs.Common.{◌≡◌, ◌≤◌, false, refl, sym, ◌∙◌, ap, subst, arith, inl, inr}
use Rattle.std.proofs.lemmas.Bool.{cases_lt}
use Rattle.cs_schema.specs.Lists.{member}
use Rattle.cs_schema.specs.CatalogView.{catalog_data}
use Rattle.cs_schema.specs.CatalogData.{CatalogData}
use Rattle.cs_schema.proofs.Ascending.{false≢true}
use Rattle.cs_schema.proofs.CatalogFacts.{rules_hold}
use Rattle.cs_schema.proofs.catalog.Catalog.has_sites.Goals as goal

pub overflow_step-site : goal.overflow_step-site
overflow_step-site c =
    let few : c.self.inside.sites ≤ 16 = (rules_hold (catalog_data c.self.inside) c.self.invariant).site_range.1 in
    omega arith

pub loop-site-init : goal.loop-site-init
loop-site-init c = λ x low high.
    let same : c.self.inside.sites ≡ c.args.self.now.sites = ap (λ (C : CatalogData). C.sites) c.self.view_is in
    absurd (omega (arith, same, low, high))

pub loop-site-preserved : goal.loop-site-preserved
loop-site-preserved c = λ x low high.
    elim (cases_lt x c.loop-site.site) [
      | inl before ↦ c.loop-site.invariant x low before
      | inr here ↦
          let same : c.loop-site.site ≡ x = omega (arith, high, here) in
          subst (λ n. member c.args.loss n ≡ false) same (sym c.if-has.ensures.value)
    ]

pub returns : goal.returns
returns c = (
  λ _. (
    c.count.ensures.sites.0,
    λ x m.
        let range = c.count.ensures.sites.1 x m in
        elim (cases_lt c.args.self.now.sites x) [
          | inl beyond ↦ false≢true (sym (c.loop-site.invariant x beyond (omega (arith, range.1, c.loop-site-test.false))) ∙ m)
          | inr within ↦ (range.0, within)
        ],
  ),
  λ _. refl,
)
