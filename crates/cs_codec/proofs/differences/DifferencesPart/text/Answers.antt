use Rattle.std.proofs.Common.{arith, rules, ℤ, ℕ, List, w64, to_z, of_z, ◌≡◌, ◌++◌, ◌+◌, ap, ◌∙◌, get_or, length, append_assoc}
use Rattle.std.specs.Prelude.{◌+ℤ◌, pos}
use Rattle.std.proofs.lemmas.Int.{to_z-of_z}
use Rattle.std.proofs.lemmas.List.{get_or_default}
use Rattle.cs_codec.specs.Cells.{IsInt, number, int_cell}
use Rattle.cs_codec.specs.Texts.{differences_text}
use Rattle.cs_codec.proofs.RiseLists.{fits_still, one_more_rise, gap_item, full_item, some_rising, length-rises}
use Rattle.cs_codec.proofs.differences.DifferencesPart.text.Goals as goal
use Rattle.cs_codec.proofs.differences.DifferencesPart.text.Goals.{then-position-eq1+in_ok-write_number-2+in_ok-write-2, else-position-eq1+in_ok-write_short}

pub overflow_add-position : goal.overflow_add-position
overflow_add-position c =
    let place = c.loop-gap.invariant.1.position_is in
    let few = c.self.invariant.short in
    let count = c.self.invariant.count_is ∙ ap (λ (z : List ℤ). length z) (some_rising c.self.inside.count c.self.inside.first c.self.inside.gaps.items (omega arith)) in
    let size = length-rises c.self.inside.first c.self.inside.gaps.items in
    let same = ap (λ (z : List ℕ). length z) c.deref-gap-items.ensures.value in
    omega (arith, place, few, count, size, same)

pub unreachable-requires : goal.unreachable-requires
unreachable-requires c =
    let gaps = c.deref-gap-items.result.now in
    let i = c.loop-gap.gap-index in
    let g : ℕ = get_or gaps i 0 in
    let fits : IsInt (to_z w64 c.loop-gap.value-bits) = search rules in
    let far = c.loop-gap.invariant.1 in
    c.in_default.ensures (fits_still (to_z w64 c.loop-gap.value-bits) c.loop-gap.invariant.0 gaps i g c.loop-gap-test.true (get_or_default gaps i 0 g c.loop-gap-test.true) far.last_is fits far.last_fits)

pub loop-gap-preserved : goal.loop-gap-preserved
loop-gap-preserved c =
    let gaps = c.deref-gap-items.result.now in
    let i = c.loop-gap.gap-index in
    let g : ℕ = get_or gaps i 0 in
    let value : ℤ = to_z w64 c.loop-gap.value-bits in
    let sum : c.in-Some.next ≡ value +ℤ pos g = search rules in
    let fits : IsInt c.in-Some.next = search rules in
    let next : to_z w64 (of_z w64 c.in-Some.next) ≡ c.in-Some.next = to_z-of_z w64 c.in-Some.next fits in
    let x : ℤ = to_z w64 (of_z w64 c.in-Some.next) in
    let xe : to_z w64 (of_z w64 c.in-Some.next) ≡ value +ℤ pos g = next ∙ sum in (
      c.loop-gap.invariant.0,
      one_more_rise value x c.loop-gap.invariant.0 gaps i c.loop-gap.position g c.loop-gap.out.items c.if-position-eq1.out.items (differences_text c.args.self.now) c.loop-gap-test.true (get_or_default gaps i 0 g c.loop-gap-test.true) c.loop-gap.invariant.1 xe
          (elim c.if-position-eq1.branch [
            | then-position-eq1+in_ok-write_number-2+in_ok-write-2 w ↦
                ap (λ v. v.items) w.out-is ∙ w.in_ok-write-2.ensures.ok
                ∙ ap (λ (z : List ℕ). z ++ int_cell x) w.in_ok-write_number-2.ensures.ok
                ∙ append_assoc c.loop-gap.out.items (number (c.loop-gap.position + 1)) (int_cell x)
                ∙ ap (λ (z : List ℕ). c.loop-gap.out.items ++ z) (full_item value x (c.loop-gap.position + 1) (omega arith))
            | else-position-eq1+in_ok-write_short w ↦
                ap (λ v. v.items) w.out-is ∙ w.in_ok-write_short.ensures
                ∙ ap (λ (z : List ℕ). c.loop-gap.out.items ++ z) (gap_item value x (c.loop-gap.position + 1) g xe (λ e. omega arith))
          ]),
    )
