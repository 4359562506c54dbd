use Rattle.std.proofs.Common.{◌≡◌, ◌-◌, ℕ, List, length, take, drop, Some, ap, sym, ◌∙◌, arith, subst}
use Rattle.std.specs.Prelude.{IsUtf8}
use Rattle.cs_schema.proofs.Blocks.{count_in, text_in}
use Rattle.cs_schema.proofs.texts.Texts.get.Goals as goal

pub start_of-start-requires : goal.start_of-start-requires
start_of-start-requires c =
    let count = count_in c.args.self.now c.self.inside.bytes.items c.self.inside.ends c.self.view_is c.self.invariant in
    omega arith

pub get-end-requires : goal.get-end-requires
get-end-requires c =
    let count = count_in c.args.self.now c.self.inside.bytes.items c.self.inside.ends c.self.view_is c.self.invariant in
    omega arith

pub text_between-requires-clause-order : goal.text_between-requires-clause-order
text_between-requires-clause-order c =
    let text = text_in c.args.self.now c.self.inside.bytes.items c.self.inside.ends c.args.at c.requires c.self.view_is c.self.invariant in
    omega (arith, text.order)

pub text_between-requires-clause-within : goal.text_between-requires-clause-within
text_between-requires-clause-within c =
    let text = text_in c.args.self.now c.self.inside.bytes.items c.self.inside.ends c.args.at c.requires c.self.view_is c.self.invariant in
    let same = ap length c.deref.ensures.value in
    omega (arith, text.within)

-- the bytes between two places of a block are those between the same places of the text that holds it
between : (b d : List ℕ) (s t a e : ℕ) → s ≡ a → t ≡ e → b ≡ d → take (t - s) (drop s b) ≡ take (e - a) (drop a d)
between b d s t a e hs ht hb = rw (hs, ht, hb)

pub text_between-requires-clause-utf8 : goal.text_between-requires-clause-utf8
text_between-requires-clause-utf8 c =
    let text = text_in c.args.self.now c.self.inside.bytes.items c.self.inside.ends c.args.at c.requires c.self.view_is c.self.invariant in
    subst IsUtf8 (sym (between c.deref.result.now c.self.inside.bytes.items c.start_of-start.result c.get-end.result _ _ c.start_of-start.ensures c.get-end.ensures c.deref.ensures.value)) text.utf8

pub returns-clause-value : goal.returns-clause-value
returns-clause-value c =
    let text = text_in c.args.self.now c.self.inside.bytes.items c.self.inside.ends c.args.at c.requires c.self.view_is c.self.invariant in
    text.text ∙ ap Some (sym (c.text_between.ensures ∙ between c.deref.result.now c.self.inside.bytes.items c.start_of-start.result c.get-end.result _ _ c.start_of-start.ensures c.get-end.ensures c.deref.ensures.value))

pub returns-clause-fits : goal.returns-clause-fits
returns-clause-fits c =
    let text = text_in c.args.self.now c.self.inside.bytes.items c.self.inside.ends c.args.at c.requires c.self.view_is c.self.invariant in
    let same = ap length (c.text_between.ensures ∙ between c.deref.result.now c.self.inside.bytes.items c.start_of-start.result c.get-end.result _ _ c.start_of-start.ensures c.get-end.ensures c.deref.ensures.value) in
    omega (arith, text.fits)
