use Rattle.std.proofs.Common.{◌≡◌, ◌≤◌, ℕ, List, map, length, ap, sym, subst, ◌∙◌, arith, refl, inl, inr}
use Rattle.std.proofs.lemmas.Result.{err_from_is_err_and}
use Rattle.cs_schema.specs.Values.{values, kind_of}
use Rattle.cs_delta.specs.Image.{base_pairs}
use Rattle.cs_segment.specs.SegmentData.{SegmentData}
use Rattle.cs_segment.specs.SegmentView.{segment_data}
use Rattle.cs_delta.specs.DeltaView.{delta_data}
use Rattle.cs_delta.specs.Layers.{AreLayers, HaveLength, IsMadeBy}
use Rattle.cs_delta.specs.DeltaFile.{DeltaData, CanMerge, HasVersion}
use Rattle.cs_delta.specs.KindedImage.{MayMerge, merged_image, base_keys}
use Rattle.cs_delta.proofs.LayerCounts.{may_merge}
use Rattle.cs_delta.proofs.LayerSteps.{made_of_nothing}
use Rattle.cs_delta.proofs.Merged.{length-base_keys, base_are, merged_is, can_merge}
use Rattle.cs_delta.proofs.image.merge_owned.Goals as goal

may : (x s : SegmentData) (y d : DeltaData) → x ≡ s → y ≡ d → MayMerge s d → MayMerge x y
may x s y d e f h =
    let S : SegmentData → Type 0 = λ a. MayMerge a d in
    let D : DeltaData → Type 0 = λ a. MayMerge x a in
    subst D (sym f) (subst S (sym e) h)

can : (x s : SegmentData) (y d : DeltaData) → x ≡ s → y ≡ d → CanMerge s.base d → CanMerge x.base y
can x s y d e f h =
    let S : SegmentData → Type 0 = λ a. CanMerge a.base d in
    let D : DeltaData → Type 0 = λ a. CanMerge x.base a in
    subst D (sym f) (subst S (sym e) h)

-- a delta has at least one layer
some_layers : (version layers : ℕ) → HasVersion version layers → 1 ≤ layers
some_layers version layers (inl h) = let one = h.1 in omega arith
some_layers version layers (inr h) = h.1

pub apply_layers-requires-clause-some : goal.apply_layers-requires-clause-some
apply_layers-requires-clause-some c =
    let d = c.args.delta.now in
    let some = some_layers d.version (length d.layers) c.requires.delta.version in
    let layers = ap (λ (x : DeltaData). length x.layers) c.delta.view_is in
    omega (arith, some, layers, ap length c.deref-3.ensures.value)

pub apply_layers-requires-clause-layers : goal.apply_layers-requires-clause-layers
apply_layers-requires-clause-layers c =
    let req = may (segment_data c.segment.inside) c.args.segment (delta_data c.delta.inside) c.args.delta.now c.segment.view_is c.delta.view_is (may_merge c.args.segment c.args.delta.now c.requires) in
    let same : c.segment.inside.rows ≡ c.delta.inside.rows = omega arith in
    let N : List ℕ → Type 0 = λ n. AreLayers (map kind_of c.segment.inside.columns.items) n c.delta.inside.layers.items in
    rw (c.deref-2.ensures.value, c.deref-3.ensures.value) (subst N (sym (c.in_ok-keys.ensures ∙ ap base_keys same)) req.layers)

pub apply_layers-requires-clause-lengths : goal.apply_layers-requires-clause-lengths
apply_layers-requires-clause-lengths c =
    let req = may (segment_data c.segment.inside) c.args.segment (delta_data c.delta.inside) c.args.delta.now c.segment.view_is c.delta.view_is (may_merge c.args.segment c.args.delta.now c.requires) in
    let N : ℕ → Type 0 = λ n. HaveLength n (map values c.segment.inside.columns.items) in
    rw c.deref-2.ensures.value (subst N (sym (ap length c.in_ok-keys.ensures ∙ length-base_keys c.segment.inside.rows)) req.lengths)

pub returns-in_err-made-clause-refused : goal.returns-in_err-made-clause-refused
returns-in_err-made-clause-refused c = λ damaged h.
    let q = err_from_is_err_and c.from_residual-in_err-made.result c.from_residual-in_err-made.ensures.1 in
    let req = may (segment_data c.segment.inside) c.args.segment (delta_data c.delta.inside) c.args.delta.now c.segment.view_is c.delta.view_is (may_merge c.args.segment c.args.delta.now c.requires) in
    let fit = can (segment_data c.segment.inside) c.args.segment (delta_data c.delta.inside) c.args.delta.now c.segment.view_is c.delta.view_is h in
    let base = (segment_data c.segment.inside).base in
    let many = rw (c.deref-2.ensures.value, c.deref-3.ensures.value) at c.in_err-made.ensures.many in
    many (let r1 = q.1 in let r2 = q.2 in cc) (base_pairs base) ((base_are base req.lengths).keys_are ∙ sym c.in_ok-keys.ensures) fit.few

pub returns-clause-merged : goal.returns-clause-merged
returns-clause-merged c =
    let req = may (segment_data c.segment.inside) c.args.segment (delta_data c.delta.inside) c.args.delta.now c.segment.view_is c.delta.view_is (may_merge c.args.segment c.args.delta.now c.requires) in
    let x = segment_data c.segment.inside in
    let y = delta_data c.delta.inside in
    let made = rw (c.deref-2.ensures.value, c.in_ok-keys.ensures, c.deref-3.ensures.value) at c.in_ok-made.ensures.made in
    let kinds = c.in_ok-made.ensures.kinds in
    let columns = map values c.in_ok-made.made.columns.items in
    let M : List ℕ → Type 0 = λ keys. IsMadeBy (base_keys x.base.rows) x.base.columns y.layers keys columns in
    merged_is x.base y x.kinds (map kind_of c.in_ok-made.made.columns.items) c.in_ok-keys-2.keys columns c.delta.inside.top req.lengths (subst M (sym c.in_ok-keys-2.ensures) made) refl kinds
    ∙ ap (λ (s : SegmentData). merged_image s y) c.segment.view_is ∙ ap (λ (d : DeltaData). merged_image c.args.segment d) c.delta.view_is

pub returns-clause-can : goal.returns-clause-can
returns-clause-can c =
    let req = may (segment_data c.segment.inside) c.args.segment (delta_data c.delta.inside) c.args.delta.now c.segment.view_is c.delta.view_is (may_merge c.args.segment c.args.delta.now c.requires) in
    let x = segment_data c.segment.inside in
    let y = delta_data c.delta.inside in
    let made = rw (c.deref-2.ensures.value, c.in_ok-keys.ensures, c.deref-3.ensures.value) at c.in_ok-made.ensures.made in
    can c.args.segment x c.args.delta.now y (sym c.segment.view_is) (sym c.delta.view_is) (can_merge x.base y c.in_ok-made.made.keys.items (map values c.in_ok-made.made.columns.items) req.lengths (omega arith) made)

-- if the layers have no items, the base's keys and columns stay
module _ (c : goal.After-first) where
  req : MayMerge (segment_data c.segment.inside) (delta_data c.delta.inside)
  req = may (segment_data c.segment.inside) c.args.segment (delta_data c.delta.inside) c.args.delta.now c.segment.view_is c.delta.view_is (may_merge c.args.segment c.args.delta.now c.requires)

  made : IsMadeBy (base_keys c.segment.inside.rows) (map values c.segment.inside.columns.items) c.delta.inside.layers.items (base_keys c.segment.inside.rows) (map values c.segment.inside.columns.items)
  made =
      let few : length (base_keys c.segment.inside.rows) ≤ 1048576 = omega (arith, (req).count, length-base_keys c.segment.inside.rows) in
      let none = rw c.deref.ensures.value at (c.say_nothing.ensures c.if-say_nothing.true) in
      made_of_nothing (base_keys c.segment.inside.rows) (map values c.segment.inside.columns.items) c.delta.inside.layers.items few none

pub invariant_of-result : goal.invariant_of-result
invariant_of-result c =
    let N : ℕ → Type 0 = λ n. HaveLength n (map values c.segment.inside.columns.items) in
    subst N (sym (ap length c.first.ensures ∙ length-base_keys c.segment.inside.rows)) (req c).lengths

pub returns-then-say_nothing-clause-merged : goal.returns-then-say_nothing-clause-merged
returns-then-say_nothing-clause-merged c =
    let x = segment_data c.segment.inside in
    let y = delta_data c.delta.inside in
    let kinds = map kind_of c.segment.inside.columns.items in
    let columns = map values c.segment.inside.columns.items in
    let M : List ℕ → Type 0 = λ keys. IsMadeBy (base_keys c.segment.inside.rows) columns c.delta.inside.layers.items keys columns in
    merged_is x.base y x.kinds kinds c.first.result columns c.delta.inside.top (req c).lengths (subst M (sym c.first.ensures) (made c)) refl refl
    ∙ ap (λ (s : SegmentData). merged_image s y) c.segment.view_is ∙ ap (λ (d : DeltaData). merged_image c.args.segment d) c.delta.view_is

pub returns-then-say_nothing-clause-can : goal.returns-then-say_nothing-clause-can
returns-then-say_nothing-clause-can c =
    let x = segment_data c.segment.inside in
    let y = delta_data c.delta.inside in
    can c.args.segment x c.args.delta.now y (sym c.segment.view_is) (sym c.delta.view_is) (can_merge x.base y (base_keys c.segment.inside.rows) (map values c.segment.inside.columns.items) (req c).lengths (omega arith) (made c))
