use Rattle.std.proofs.Common.{◌≡◌, ◌+◌, ◌++◌, ◌∷◌, [], List, map, length, take, drop, refl, ap, sym, subst, ◌∙◌, arith}
use Rattle.std.proofs.lemmas.List.{length-map, take_more, take_all, nil_from_length}
use Rattle.std.proofs.lemmas.Result.{err_from_is_err_and}
use Rattle.cs_schema.specs.Values.{values, kind_of}
use Rattle.cs_delta.specs.Image.{Change}
use Rattle.cs_delta.specs.Layers.{AreLayers, IsMadeBy}
use Rattle.cs_delta.proofs.MakeSteps.{drop_item}
use Rattle.cs_delta.proofs.LayerSteps.{AreMade, made_first, made_next, made_none, split_at, too_many, same_keys, same_columns}
use Rattle.cs_delta.proofs.applying.apply_layers.Goals as goal
use Rattle.cs_delta.proofs.applying.apply_layers.Goals.{then-not-is_empty+in_ok-next, else-not-is_empty}

pub returns-in_err-made-clause-many : goal.returns-in_err-made-clause-many
returns-in_err-made-clause-many c = λ damaged xs e fit.
    let q = err_from_is_err_and c.from_residual.result c.from_residual.ensures.1 in
    let keys = c.args.keys.now in
    let columns = map values c.args.columns.items in
    let many = c.in_err-made.ensures.many in
    too_many keys keys columns columns c.args.layers.now [] c.in-Some.above.now c.in-Some.lowest.now xs
    c.in-Some.ensures.cases.0 (made_none keys columns) e (many (let r1 = q.1 in let r2 = q.2 in cc)) fit

pub loop-layer-init : goal.loop-layer-init
loop-layer-init c =
    let columns = c.args.columns.items in
    let lowest = c.in-Some.lowest.now in
    let above = c.in-Some.above.now in
    let new = c.in_ok-made.made in
    let keys = c.in_ok-made.ensures.keys in
    let cells = c.in_ok-made.ensures.columns in
    let kinds = c.in_ok-made.ensures.kinds in
    let A : List (List Change) → Type 0 = λ x. AreLayers (map kind_of columns) c.args.keys.now x in
    let first = made_first c.args.keys.now (map values columns) (map kind_of columns) (lowest ∷ above) (subst A c.in-Some.ensures.cases.0 c.requires.layers) c.requires.lengths (length-map columns kind_of ∙ sym (length-map columns values)) in
    let made = made_next c.args.keys.now c.args.keys.now new.keys.items (map values columns) (map values columns) (map values new.columns.items) (map kind_of columns) (map kind_of columns) (map kind_of new.columns.items) [] lowest above first keys cells kinds c.in_ok-made.ensures.few in
    record {
      made_are = λ other e.
          let both : lowest ∷ above ≡ other ∷ above = sym c.in-Some.ensures.cases.0 ∙ e in
          let same : lowest ≡ other = cc in
          let M : List Change → Type 0 = λ x. AreMade c.args.keys.now (map values columns) (map kind_of columns) (x ∷ []) above new.keys.items (map values new.columns.items) (map kind_of new.columns.items) in
          subst M same made;
      few = c.in_ok-made.ensures.few;
    }

pub apply_layer-requires-then-not-is_empty-clause-layer : goal.apply_layer-requires-then-not-is_empty-clause-layer
apply_layer-requires-then-not-is_empty-clause-layer c =
    let i = c.loop-layer.invariant.made_are c.in-Some.lowest.now c.in-Some.ensures.cases.0 in
    let above = c.in-Some.above.now in
    let n = c.loop-layer.layer-index in
    let old = c.loop-layer.made in
    let A : List (List Change) → Type 0 = λ x. AreLayers (map kind_of old.columns.items) old.keys.items x in
    let left = subst A (drop_item above n c.layer-item.result c.loop-layer-test.true c.layer-item.is) i.layers_left in
    rw (c.replace-columns_below.ensures.value, c.as_slice-keys_below.ensures.value) left.0

pub apply_layer-requires-then-not-is_empty-clause-lengths : goal.apply_layer-requires-then-not-is_empty-clause-lengths
apply_layer-requires-then-not-is_empty-clause-lengths c =
    let i = c.loop-layer.invariant.made_are c.in-Some.lowest.now c.in-Some.ensures.cases.0 in
    rw (c.replace-columns_below.ensures.value, c.as_slice-keys_below.ensures.value) i.lengths

pub returns-in_err-next-clause-many : goal.returns-in_err-next-clause-many
returns-in_err-next-clause-many c = λ damaged xs e fit.
    let i = c.loop-layer.invariant.made_are c.in-Some.lowest.now c.in-Some.ensures.cases.0 in
    let above = c.in-Some.above.now in
    let lowest = c.in-Some.lowest.now in
    let n = c.loop-layer.layer-index in
    let layer = c.layer-item.result in
    let old = c.loop-layer.made in
    let q = err_from_is_err_and c.from_residual-in_err-next.result c.from_residual-in_err-next.ensures.1 in
    let many = rw c.as_slice-keys_below.ensures.value at c.in_err-next.ensures.many in
    too_many c.args.keys.now old.keys.items (map values c.args.columns.items) (map values old.columns.items)
    c.args.layers.now (lowest ∷ take n above) (drop (n + 1) above) layer xs
    (c.in-Some.ensures.cases.0 ∙ ap (λ (ls : List (List Change)). lowest ∷ ls) (split_at above n layer c.loop-layer-test.true c.layer-item.is))
    i.made_is e (many (let r1 = q.1 in let r2 = q.2 in cc)) fit

pub loop-layer-preserved : goal.loop-layer-preserved
loop-layer-preserved c =
    let above = c.in-Some.above.now in
    let n = c.loop-layer.layer-index in
    let layer : List Change = c.layer-item.result in
    let old = c.loop-layer.made in
    let columns = c.args.columns.items in
    let more : take (n + 1) above ≡ take n above ++ layer ∷ [] = take_more above n layer c.loop-layer-test.true ∙ ap (λ (y : List Change). take n above ++ y ∷ []) (sym c.layer-item.is) in
    let A : (lowest : List Change) → List (List Change) → Type 0 = λ lowest x. AreMade c.args.keys.now (map values columns) (map kind_of columns) (lowest ∷ take n above) x old.keys.items (map values old.columns.items) (map kind_of old.columns.items) in
    let before : (lowest : List Change) → c.args.layers.now ≡ lowest ∷ above → A lowest (layer ∷ drop (n + 1) above) = λ lowest e. subst (A lowest) (drop_item above n layer c.loop-layer-test.true c.layer-item.is) (c.loop-layer.invariant.made_are lowest e) in
    elim c.if-not-is_empty.branch [
      | then-not-is_empty+in_ok-next w ↦
          let new = w.in_ok-next.next in
          let keys = rw w.as_slice-keys_below.ensures.value at w.in_ok-next.ensures.keys in
          let cells = rw w.replace-columns_below.ensures.value at w.in_ok-next.ensures.columns in
          let kinds = rw w.replace-columns_below.ensures.value at w.in_ok-next.ensures.kinds in
          rw w.made-is (record {
            made_are = λ lowest e.
                let M : List (List Change) → Type 0 = λ x. AreMade c.args.keys.now (map values columns) (map kind_of columns) (lowest ∷ x) (drop (n + 1) above) new.keys.items (map values new.columns.items) (map kind_of new.columns.items) in
                subst M (sym more) (made_next c.args.keys.now old.keys.items new.keys.items (map values columns) (map values old.columns.items) (map values new.columns.items) (map kind_of columns) (map kind_of old.columns.items) (map kind_of new.columns.items) (lowest ∷ take n above) layer (drop (n + 1) above) (before lowest e) keys cells kinds w.in_ok-next.ensures.few);
            few = w.in_ok-next.ensures.few;
          })
      | else-not-is_empty w ↦
          let none : length layer ≡ 0 = grind (arith, c.is_empty.ensures, w.if-not-is_empty.ensures) in
          let empty : layer ≡ [] = nil_from_length layer none in
          rw w.made-is (record {
            made_are = λ lowest e.
                let M : List (List Change) → Type 0 = λ x. AreMade c.args.keys.now (map values columns) (map kind_of columns) (lowest ∷ x) (drop (n + 1) above) old.keys.items (map values old.columns.items) (map kind_of old.columns.items) in
                subst M (sym more) (made_next c.args.keys.now old.keys.items old.keys.items (map values columns) (map values old.columns.items) (map values old.columns.items) (map kind_of columns) (map kind_of old.columns.items) (map kind_of old.columns.items) (lowest ∷ take n above) layer (drop (n + 1) above) (before lowest e) (same_keys layer old.keys.items empty) (same_columns layer (map values old.columns.items) empty) refl c.loop-layer.invariant.few);
            few = c.loop-layer.invariant.few;
          })
    ]

pub returns-clause-made : goal.returns-clause-made
returns-clause-made c =
    let i = c.loop-layer.invariant.made_are c.in-Some.lowest.now c.in-Some.ensures.cases.0 in
    let above = c.in-Some.above.now in
    let all : c.in-Some.lowest.now ∷ take c.loop-layer.layer-index above ≡ c.args.layers.now = ap (λ (x : List (List Change)). c.in-Some.lowest.now ∷ x) (take_all c.loop-layer.layer-index above (omega arith)) ∙ sym c.in-Some.ensures.cases.0 in
    let M : List (List Change) → Type 0 = λ x. IsMadeBy c.args.keys.now (map values c.args.columns.items) x c.loop-layer.made.keys.items (map values c.loop-layer.made.columns.items) in
    subst M all i.made_is

pub returns-clause-lengths : goal.returns-clause-lengths
returns-clause-lengths c = (c.loop-layer.invariant.made_are c.in-Some.lowest.now c.in-Some.ensures.cases.0).lengths

pub returns-clause-kinds : goal.returns-clause-kinds
returns-clause-kinds c = (c.loop-layer.invariant.made_are c.in-Some.lowest.now c.in-Some.ensures.cases.0).kinds_are
