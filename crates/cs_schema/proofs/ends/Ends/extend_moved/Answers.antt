use Rattle.std.proofs.Common.{◌≡◌, ◌≤◌, ◌-◌, ◌++◌, ℕ, List, length, take, drop, sym, ap, ◌∙◌, arith, length-take, length-drop}
use Rattle.std.specs.Prelude.{slice_index}
use Rattle.std.proofs.lemmas.List.{take-append-le, drop-append-le}
use Rattle.cs_schema.proofs.ends.Ends.extend_moved.Goals as goal

-- a part of the ends of four bytes is one of all ends
narrow_part : (narrow wide other items part : List ℕ) (from to : ℕ) → from ≤ to → to ≤ length narrow → items ≡ narrow → part ≡ take (to - from) (drop from items) → narrow ++ wide ≡ other → part ≡ take (to - from) (drop from other)
narrow_part narrow wide other items part from to o w d p v =
    p
    ∙ ap (λ (z : List ℕ). take (to - from) (drop from z)) d
    ∙ sym (take-append-le (to - from) (drop from narrow) wide (omega (arith, length-drop from narrow)))
    ∙ ap (λ (z : List ℕ). take (to - from) z) (sym (drop-append-le from narrow wide (omega arith)))
    ∙ ap (λ (z : List ℕ). take (to - from) (drop from z)) v

pub extend_narrow-requires-clause-low : goal.extend_narrow-requires-clause-low
extend_narrow-requires-clause-low c = λ k h.
    let same = narrow_part c.other.inside.narrow.items c.other.inside.wide.items c.args.other.now c.deref.result.now c.part.result.now c.args.from c.args.to c.requires.order (omega arith) c.deref.ensures.value c.part.ensures c.other.view_is in
    let size = ap length same in
    let here = ap (λ (z : List ℕ). slice_index z k) same in
    let low = c.requires.low k (omega (arith, size, length-take (c.args.to - c.args.from) (drop c.args.from c.args.other.now), length-drop c.args.from c.args.other.now)) in
    omega (arith, here, low)

pub extend_narrow-requires-clause-high : goal.extend_narrow-requires-clause-high
extend_narrow-requires-clause-high c = λ k h.
    let same = narrow_part c.other.inside.narrow.items c.other.inside.wide.items c.args.other.now c.deref.result.now c.part.result.now c.args.from c.args.to c.requires.order (omega arith) c.deref.ensures.value c.part.ensures c.other.view_is in
    let size = ap length same in
    let here = ap (λ (z : List ℕ). slice_index z k) same in
    let high = c.requires.high k (omega (arith, size, length-take (c.args.to - c.args.from) (drop c.args.from c.args.other.now), length-drop c.args.from c.args.other.now)) in
    omega (arith, here, high)
