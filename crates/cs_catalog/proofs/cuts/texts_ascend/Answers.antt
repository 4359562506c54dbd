use Rattle.std.proofs.Common.{◌≡◌, ◌-◌, ◌+◌, ◌<◌, ◌≤◌, ◌&&◌, Bool, length, map, drop, sym, ap, ◌∙◌, arith}
use Rattle.cs_schema.specs.declared.cells.Value.{Value}
use Rattle.cs_schema.specs.Cuts.{ascends}
use Rattle.cs_catalog.proofs.TextOrder.{not_less, is_less, ascend_from, ascend_last}
use Rattle.cs_catalog.proofs.cuts.texts_ascend.Goals as goal

pub returns-then-is_ge : goal.returns-then-is_ge
returns-then-is_ge c =
    let next = c.loop-next.next in
    let e : next ≡ next - 1 + 1 = omega (arith, c.loop-next.auto.next) in
    let here : next < length c.args.texts.now = omega (arith, c.loop-next-test.true, c.len-next-end.ensures) in
    let less = not_less c.compare.result (sym c.is_ge.ensures ∙ c.if-is_ge.true) in
    sym (c.loop-next.invariant ∙ ascend_from c.args.texts.now (next - 1) next c.compare.result e here c.compare.ensures ∙ ap (λ (b : Bool). b && ascends (map Value.Text (drop next c.args.texts.now))) less)

pub loop-next-preserved : goal.loop-next-preserved
loop-next-preserved c =
    let next = c.loop-next.next in
    let e : next ≡ next - 1 + 1 = omega (arith, c.loop-next.auto.next) in
    let here : next < length c.args.texts.now = omega (arith, c.loop-next-test.true, c.len-next-end.ensures) in
    let back : next ≡ next + 1 - 1 = omega arith in
    let less = is_less c.compare.result (sym c.is_ge.ensures ∙ c.if-is_ge.false) in
    c.loop-next.invariant
    ∙ ascend_from c.args.texts.now (next - 1) next c.compare.result e here c.compare.ensures
    ∙ ap (λ (b : Bool). b && ascends (map Value.Text (drop next c.args.texts.now))) less
    ∙ ap (λ k. ascends (map Value.Text (drop k c.args.texts.now))) back

pub returns : goal.returns
returns c =
    let last : length c.args.texts.now ≤ c.loop-next.next - 1 + 1 = omega (arith, c.loop-next-test.false, c.len-next-end.ensures, c.loop-next.auto.next) in
    sym (c.loop-next.invariant ∙ ascend_last c.args.texts.now (c.loop-next.next - 1) last)
