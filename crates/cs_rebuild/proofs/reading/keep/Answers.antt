use Rattle.std.proofs.Common.{◌≡◌, ℕ, ◌<◌, ◌≤◌, List, [], length, sym, ap, subst, ◌∙◌, inl, inr, Some, arith}
use Rattle.std.proofs.lemmas.List.{take_all}
use Rattle.std.proofs.lemmas.Option.{same_Some, slice_get_within}
use Rattle.cs_schema.specs.Lists.{IsIn}
use Rattle.cs_schema.proofs.Lists.{in_at, in_map}
use Rattle.cs_jix.specs.JoinIndex.{Place}
use Rattle.cs_schema.specs.CatalogData.{CatalogData, HasSegment, segments}
use Rattle.cs_rows.specs.Survivors.{image_at, join_at}
use Rattle.cs_rows.proofs.PutLemmas.{images_are_put, joins_are_put}
use Rattle.cs_rebuild.proofs.Keeping.{popped, one_less, place_in, apart, target_below}
use Rattle.cs_rebuild.proofs.Numbers.{by_equal}
use Rattle.cs_rebuild.proofs.reading.keep.Goals as goal

pub loop-q-init : goal.loop-q-init
loop-q-init c =
    let v = c.args.survivors.now in
    let p = c.args.p in
    let s = c.args.s in
    let all = c.args.held.joins.items in
    let put = images_are_put v.catalog v p s c.args.held.image c.put_image.ensures.room c.requires.exists in
    let is = c.put_image.ensures.new in
    record {
      rest = sym (take_all (length all) all (omega arith));
      catalog = ap (λ x. x.catalog) is;
      image = ap (λ x. image_at x p s) is ∙ put.new;
      joins = λ k j low at. let inside = slice_get_within all k j at in absurd (omega (arith, inside, low));
      others = record {
        images = λ t u differ. ap (λ x. image_at x t u) is ∙ put.others t u (apart t u p s differ);
        joins = λ t u r differ. ap (λ x. join_at x t u r) is ∙ put.joins t u r;
      };
    }

pub put_join-requires-clause-target : goal.put_join-requires-clause-target
put_join-requires-clause-target c =
    let all = c.args.held.joins.items in
    let j : ℕ × List Place = (c.in-Some.q, c.in-Some.join) in
    let at = (popped all c.loop-q.joins.items c.pop.new.self.items j c.loop-q.invariant.rest c.in-Some.ensures.items).1 in
    let below = target_below c.args.survivors.now.catalog c.args.p all c.requires.targets j (in_at all (length c.pop.new.self.items) j at) in
    subst (λ (D : CatalogData). c.in-Some.q < length D.projections) (sym c.loop-q.invariant.catalog) below

pub put_join-requires-clause-projection : goal.put_join-requires-clause-projection
put_join-requires-clause-projection c = subst (λ (D : CatalogData). c.args.p < length D.projections) (sym c.loop-q.invariant.catalog) c.requires.exists.0

pub put_join-requires-clause-segment : goal.put_join-requires-clause-segment
put_join-requires-clause-segment c = subst (λ (D : CatalogData). c.args.s < segments D c.args.p) (sym c.loop-q.invariant.catalog) c.requires.exists.1

pub loop-q-preserved : goal.loop-q-preserved
loop-q-preserved c =
    let C = c.args.survivors.now.catalog in
    let p = c.args.p in
    let s = c.args.s in
    let all = c.args.held.joins.items in
    let v = c.loop-q.survivors in
    let w = c.put_join.new.self in
    let new = c.pop.new.self.items in
    let q = c.in-Some.q in
    let j : ℕ × List Place = (c.in-Some.q, c.in-Some.join) in
    let last = popped all c.loop-q.joins.items new j c.loop-q.invariant.rest c.in-Some.ensures.items in
    let less = one_less c.loop-q.joins.items new j c.in-Some.ensures.items in
    let here : IsIn j all = in_at all (length new) j last.1 in
    let below = target_below C p all c.requires.targets j here in
    let own = sym c.loop-q.invariant.catalog in
    let put = joins_are_put v.catalog v p s q c.in-Some.join c.put_join.ensures.room (subst (λ (D : CatalogData). HasSegment D p s) own c.requires.exists) (subst (λ (D : CatalogData). q < length D.projections) own below) in
    let is = c.put_join.ensures.new in
    record {
      rest = last.0;
      catalog = ap (λ x. x.catalog) is ∙ c.loop-q.invariant.catalog;
      image = ap (λ x. image_at x p s) is ∙ put.images p s ∙ c.loop-q.invariant.image;
      joins = λ k i low at.
          by_equal i.0 q
          (λ e. (c.in-Some.join, subst (λ r. IsIn (r, c.in-Some.join) all) (sym e) here, ap (λ x. join_at x p s i.0) is ∙ subst (λ r. join_at (Rattle.cs_rows.specs.Survivors.with_join v p s q c.in-Some.join) p s r ≡ Some c.in-Some.join) (sym e) put.new))
          (λ n.
          let high : length c.loop-q.joins.items ≤ k =
          by_equal k (length new) (λ e. absurd (n (ap (λ (x : ℕ × List Place). x.0) (same_Some i j (sym (subst (λ m. Rattle.std.specs.List.slice_get all m ≡ Some i) e at) ∙ last.1))))) (λ m. omega (arith, m, low, less)) in
          let old = c.loop-q.invariant.joins k i high at in
          (old.0, old.1, ap (λ x. join_at x p s i.0) is ∙ put.others p s i.0 (inr (inr n)) ∙ old.2));
      others = record {
        images = λ t u differ. ap (λ x. image_at x t u) is ∙ put.images t u ∙ c.loop-q.invariant.others.images t u differ;
        joins = λ t u r differ. ap (λ x. join_at x t u r) is ∙ put.others t u r (elim (apart t u p s differ) [ inl a ↦ inl a | inr a ↦ inr (inl a) ]) ∙ c.loop-q.invariant.others.joins t u r differ;
      };
    }

pub returns-clause-kept : goal.returns-clause-kept
returns-clause-kept c F files =
    let all = c.args.held.joins.items in
    let none : (0 < length c.loop-q.joins.items → ⊥) = λ some. c.in_default.not-Some _ (c.pop.ensures.value (0, []) (omega (arith, some))) in
    record {
      image = (c.args.held.image, c.loop-q.invariant.image, files.image.0);
      joins = λ q i.
          let at = in_map (λ (j : ℕ × List Place). j.0) all q (subst (IsIn q) (sym c.requires.targets) i) in
          let k = place_in all at.0 at.1 in
          let kept = c.loop-q.invariant.joins k.0 at.0 (omega (arith, none)) k.1 in
          (kept.0, subst (λ r. join_at c.loop-q.survivors c.args.p c.args.s r ≡ Some kept.0) (sym at.2) kept.2, subst (λ r. Rattle.cs_recovery.specs.Contents.IsJoinOf F c.args.p c.args.s r kept.0) (sym at.2) (files.joins (at.0.0, kept.0) kept.1));
    }
