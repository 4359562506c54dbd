use Rattle.std.proofs.Common.{◌≡◌, ℕ, ◌<◌, ◌+◌, arith, subst, sym, ◌∙◌, below_more, List, Bool}
use Rattle.cs_schema.specs.CatalogData.{CatalogData, column}
use Rattle.cs_schema.specs.Losses.{Sites}
use Rattle.cs_safety.specs.SafetyCuts.{first_sort, least_of}
use Rattle.cs_safety.specs.RowSets.{IsGrowing, HasValue, HasCuts, StaysIn}
use Rattle.cs_schema.specs.Values.{IsLeastOfKind}
use Rattle.cs_safety.proofs.GreatestCut.{one_least}
use Rattle.cs_safety.proofs.RowSetLemmas.{nothing_grows, joined_column, stays_value}
use Rattle.cs_safety.proofs.row_sets.with_column.Goals as goal
use Rattle.cs_safety.proofs.row_sets.with_column.Goals.{then-first_sort_of-c, else-first_sort_of-c}

pub add_value-requires-clause-growing : goal.add_value-requires-clause-growing
add_value-requires-clause-growing c = nothing_grows c.args.catalog.now c.args.loss c.args.c c.no_sets-new.result c.no_sets-new.ensures.size c.no_sets-new.ensures.none

record Built (C : CatalogData) (L : Sites) (c m : ℕ) (old new : List Bool) : Type 0 where
  growing : IsGrowing C L c new
  least : HasValue C L c old new (least_of (column C c).kind)
  cuts : (p : ℕ) → p < m → first_sort C p ≡ c → HasCuts C L c old new p

built_more : (C : CatalogData) (L : Sites) (c m : ℕ) (old before after : List Bool) → Built C L c m old before → IsGrowing C L c after → StaysIn before after → HasCuts C L c old after m → Built C L c (m + 1) old after
built_more C L c m old before after b growing stays has = record {
  growing = growing;
  least = stays_value C L c old before after (least_of (column C c).kind) stays b.least;
  cuts = below_more (λ p. first_sort C p ≡ c → HasCuts C L c old after p) m (λ p l e v i. stays_value C L c old before after v stays (b.cuts p l e v i)) (λ e. has);
}

built_same : (C : CatalogData) (L : Sites) (c m f : ℕ) (old new : List Bool) → Built C L c m old new → f ≡ first_sort C m → (f ≡ c → ⊥) → Built C L c (m + 1) old new
built_same C L c m f old new b is apart = record {
  growing = b.growing;
  least = b.least;
  cuts = below_more (λ p. first_sort C p ≡ c → HasCuts C L c old new p) m b.cuts (λ e. absurd (apart (is ∙ e)));
}

built_now : (C : CatalogData) (L : Sites) (c m : ℕ) (old a b : List Bool) → a ≡ b → Built C L c m old b → Built C L c m old a
built_now C L c m old a b e h = subst (Built C L c m old) (sym e) h

pub loop-p-preserved : goal.loop-p-preserved
loop-p-preserved c =
    let i = c.loop-p.invariant in
    let b : Built c.args.catalog.now c.args.loss c.args.c c.loop-p.p c.args.old.now c.loop-p.new = record { growing = i.growing; least = i.least; cuts = i.cuts } in
    let r : Built c.args.catalog.now c.args.loss c.args.c (c.loop-p.p + 1) c.args.old.now c.if-first_sort_of-c.new =
    elim c.if-first_sort_of-c.branch [
      | then-first_sort_of-c w ↦ built_now _ _ _ _ _ _ _ w.new-is (built_more _ _ _ _ _ c.loop-p.new _ b w.add_cuts.ensures.growing w.add_cuts.ensures.stays w.add_cuts.ensures.has)
      | else-first_sort_of-c w ↦ built_now _ _ _ _ _ _ _ w.new-is (built_same _ _ _ _ c.first_sort_of.result _ _ b c.first_sort_of.ensures w.if-first_sort_of-c.false)
    ] in
    record { growing = r.growing; least = r.least; cuts = r.cuts }

pub returns : goal.returns
returns c =
    let i = c.loop-p.invariant in
    let done = c.loop-p-test.false in
    let count = c.projection_count-p-end.ensures.count in
    joined_column c.args.catalog.now c.args.loss c.args.c c.args.old.now c.loop-p.new c.requires.exists c.requires.left i.growing i.least (λ p l e. i.cuts p (omega (arith, l, done, count)) e)

pub loop-p-init : goal.loop-p-init
loop-p-init c = record {
  growing = c.add_value.ensures.growing;
  least = subst (λ v. HasValue c.args.catalog.now c.args.loss c.args.c c.args.old.now c.add_value.new.new v) (one_least (column c.args.catalog.now c.args.c).kind c.least-least.result (subst (λ k. IsLeastOfKind k c.least-least.result) c.kind.ensures c.least-least.ensures)) c.add_value.ensures.has;
  cuts = λ p l. absurd (omega arith);
}
