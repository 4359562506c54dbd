use Rattle.std.proofs.Common.{arith, rules, ◌≡◌, sym, subst, ap, ◌∙◌, ℤ, w64}
use Rattle.std.specs.Prelude.{◌+ℤ◌, pos}
use Rattle.cs_codec.specs.Cells.{IsInt}
use Rattle.cs_codec.specs.Differences.{ValueStandsAt}
use Rattle.std.proofs.lemmas.Int.{ints, to_z-of_z}
use Rattle.cs_codec.proofs.DifferenceReading.{none_without_number, none_at_other, none_without_cell, none_below, full_stands, none_without_gap, none_too_high, gap_stands}
use Rattle.cs_codec.proofs.differences.read_value.Goals as goal

pub returns-in_err-number-clause-none : goal.returns-in_err-number-clause-none
returns-in_err-number-clause-none c =
    rw c.from_residual.ensures (none_without_number c.args.before c.args.position c.args.bytes.now c.args.at (omega arith) c.in_err-number.ensures.none)

pub returns-else-value-before-clause-found : goal.returns-else-value-before-clause-found
returns-else-value-before-clause-found c =
    let found = c.in_ok-value.ensures.found in
    subst (λ (z : ℤ). ValueStandsAt c.args.before c.args.position c.args.bytes.now c.args.at z c.in_ok-value.end) (sym (to_z-of_z w64 c.in_ok-value.value found.holds))
    (full_stands c.args.before c.args.position c.in_ok-number.number c.args.bytes.now c.args.at c.in_ok-value.value c.in_ok-value.end (omega arith) c.in_ok-number.ensures.found (omega arith) found (omega (arith, ints)))

pub returns-then-number-position-clause-none : goal.returns-then-number-position-clause-none
returns-then-number-position-clause-none c =
    none_at_other c.args.before c.args.position c.in_ok-number.number c.args.bytes.now c.args.at (omega arith) (omega arith) c.in_ok-number.ensures.found (omega arith)

pub returns-in_err-value-clause-none : goal.returns-in_err-value-clause-none
returns-in_err-value-clause-none c =
    rw c.from_residual-in_err-value.ensures (none_without_cell c.args.before c.args.position c.in_ok-number.number c.args.bytes.now c.args.at (omega arith) c.in_ok-number.ensures.found c.in_err-value.ensures.none)

pub returns-then-value-before-clause-none : goal.returns-then-value-before-clause-none
returns-then-value-before-clause-none c =
    none_below c.args.before c.args.position c.in_ok-number.number c.args.bytes.now c.args.at c.in_ok-value.value c.in_ok-value.end (omega arith) c.in_ok-number.ensures.found c.in_ok-value.ensures.found (λ h. omega (arith, ints))

pub returns-in_err-gap-clause-none : goal.returns-in_err-gap-clause-none
returns-in_err-gap-clause-none c =
    rw c.from_residual-in_err-gap.ensures (none_without_gap c.args.before c.args.position c.args.bytes.now c.args.at (search rules) (omega arith) c.in_err-gap.ensures.none)

pub returns-in_err-value-2-clause-none : goal.returns-in_err-value-2-clause-none
returns-in_err-value-2-clause-none c =
    let fits : IsInt c.args.before = search rules in
    let high = c.in_err-value-2.ensures in
    rw c.from_residual-in_err-value-2.ensures (none_too_high c.args.before c.args.position c.args.bytes.now c.args.at c.in_ok-gap.gap c.in_ok-gap.end fits (omega arith) c.in_ok-gap.ensures.found (λ h. high (subst (λ (z : ℤ). IsInt (z +ℤ pos c.in_ok-gap.gap)) (sym (to_z-of_z w64 c.args.before fits)) h)))

pub returns-in_ok-value-2-clause-found : goal.returns-in_ok-value-2-clause-found
returns-in_ok-value-2-clause-found c =
    let fits : IsInt c.args.before = search rules in
    let e = c.in_ok-value-2.ensures in
    let sum : c.in_ok-value-2.value ≡ c.args.before +ℤ pos c.in_ok-gap.gap = e.1 ∙ ap (λ (z : ℤ). z +ℤ pos c.in_ok-gap.gap) (to_z-of_z w64 c.args.before fits) in
    let value_fits : IsInt c.in_ok-value-2.value = search rules in
    subst (λ (z : ℤ). ValueStandsAt c.args.before c.args.position c.args.bytes.now c.args.at z c.in_ok-gap.end) (sym (to_z-of_z w64 c.in_ok-value-2.value value_fits)) (gap_stands c.args.before c.args.position c.args.bytes.now c.args.at c.in_ok-gap.gap c.in_ok-gap.end c.in_ok-value-2.value (omega arith) c.in_ok-gap.ensures.found value_fits sum)
