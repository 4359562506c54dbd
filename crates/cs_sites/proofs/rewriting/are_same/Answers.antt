use Rattle.std.proofs.Common.{◌≡◌, ◌∙◌, ◌∷◌, ◌++◌, ◌+◌, [], Bool, true, false, refl, sym, ap, suc, take, arith, eqb-true, eq-eqb, string_bytes}
use Rattle.std.proofs.Math.Seq.{take-suc}
use lib.Pointwise.{pointwise_decides}
use Rattle.cs_sites.proofs.rewriting.are_same.Goals as goal

holds : (b : Bool) → false ≡ mathlib.Core.Bool.not b → b ≡ true
holds true e = refl
holds false e = e

pub loop-at-preserved : goal.loop-at-preserved
loop-at-preserved c =
    let one = c.args.one.now in
    let other = c.args.other.now in
    let i = c.loop-at.at in
    let left = c.index-one-at.result in
    let right = c.index-other-at.result in
    let folders : string_bytes c.left.inside.folder ≡ string_bytes c.right.inside.folder = sym c.as_str.ensures.value ∙ (pointwise_decides (λ x y. (eqb-true x y, eq-eqb x y)) c.as_str.result.now c.as_str-else-left-right.result.now).0 (holds _ c.if-ne.ensures) ∙ c.as_str-else-left-right.ensures.value in
    let same : left ≡ right = sym c.left.view_is ∙ ap (λ n. record { number = n; folder = string_bytes c.left.inside.folder }) c.if-left-right.false ∙ ap (λ f. record { number = c.right.inside.number; folder = f }) folders ∙ c.right.view_is in
    let next : suc i ≡ i + 1 = omega arith in
    ap (λ n. take n one) (sym next) ∙ take-suc one i left (omega (arith, c.loop-at-test.true, c.loop-at.auto.at-end)) ∙ ap (λ x. take i one ++ (x ∷ [])) (sym c.index-one-at.is)
    ∙ ap (λ xs. xs ++ (left ∷ [])) c.loop-at.invariant ∙ ap (λ x. take i other ++ (x ∷ [])) (same ∙ c.index-other-at.is)
    ∙ sym (take-suc other i right (omega (arith, c.loop-at-test.true, c.loop-at.auto.at-end, c.if-one-other.false))) ∙ ap (λ n. take n other) next
