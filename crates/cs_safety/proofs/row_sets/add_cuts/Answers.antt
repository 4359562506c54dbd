use Rattle.std.proofs.Common.{◌≡◌, ℕ, ◌<◌, List, Some, length, slice_get, arith, sym, subst, inl, inr}
use Rattle.std.proofs.lemmas.Bool.{cases_lt}
use Rattle.std.proofs.lemmas.Option.{slice_get_within}
use Rattle.cs_schema.specs.declared.cells.Value.{Value}
use Rattle.cs_schema.specs.Lists.{IsIn}
use Rattle.cs_schema.specs.Values.{IsOfKind, values}
use Rattle.cs_schema.specs.CatalogData.{CatalogData, projection, column}
use Rattle.cs_schema.specs.CatalogRules.{IsCatalog}
use Rattle.cs_schema.proofs.Lists.{in_at, at_in}
use Rattle.cs_safety.specs.RowSets.{HasValue}
use Rattle.cs_safety.specs.SafetyCuts.{first_sort}
use Rattle.cs_safety.proofs.RowSetLemmas.{stays_value}
use Rattle.cs_safety.proofs.row_sets.add_cuts.Goals as goal

cut_kind : (C : CatalogData) → IsCatalog C → (p c : ℕ) → p < length C.projections → first_sort C p ≡ c → (cuts : List Value) → cuts ≡ (projection C p).cuts → (i : ℕ) (v : Value) → slice_get cuts i ≡ Some v → IsOfKind (column C c).kind v
cut_kind C rules p c h s cuts e i v is = subst (λ j. IsOfKind (column C j).kind v) s ((rules.projections p h).cut_kinds v (subst (λ xs. IsIn v xs) e (in_at cuts i v is)))

pub add_value-requires-clause-of_kind : goal.add_value-requires-clause-of_kind
add_value-requires-clause-of_kind c =
    cut_kind c.args.catalog.now c.cuts_of-cuts.ensures.rules c.args.p c.args.c c.requires.exists c.requires.sorted (values c.cuts_of-cuts.result.now) c.cuts_of-cuts.ensures.cuts c.loop-at.at c.cell-cut.result c.cell-cut.ensures.value

pub loop-at-preserved : goal.loop-at-preserved
loop-at-preserved c = record {
  growing = c.add_value.ensures.growing;
  stays = λ s e. c.add_value.ensures.stays s (c.loop-at.invariant.stays s e);
  has = λ i v h e. elim (cases_lt i c.loop-at.at) [
    | inl b ↦ stays_value c.args.catalog.now c.args.loss c.args.c c.args.old.now c.loop-at.new c.add_value.new.new v c.add_value.ensures.stays (c.loop-at.invariant.has i v b e)
    | inr b ↦
        let here : i ≡ c.loop-at.at = omega arith in
        let cut : slice_get (values c.cuts_of-cuts.result.now) c.loop-at.at ≡ Some c.cell-cut.result = c.cell-cut.ensures.value in
        let same : c.cell-cut.result ≡ v = cc in
        subst (λ w. HasValue c.args.catalog.now c.args.loss c.args.c c.args.old.now c.add_value.new.new w) same c.add_value.ensures.has
  ];
}

pub returns-clause-has : goal.returns-clause-has
returns-clause-has c v h =
    let cuts : List Value = values c.cuts_of-cuts.result.now in
    let f = at_in cuts v (subst (λ xs. IsIn v xs) (sym c.cuts_of-cuts.ensures.cuts) h) in
    let done = c.loop-at-test.false in
    let count = c.len-at-end.ensures in
    let l : f.0 < length cuts = slice_get_within cuts f.0 v f.1 in
    c.loop-at.invariant.has f.0 v (omega (arith, l, done, count)) f.1
