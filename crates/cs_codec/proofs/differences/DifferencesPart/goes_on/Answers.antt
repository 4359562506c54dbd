use Rattle.std.proofs.Common.{arith, rules, w64}
use Rattle.std.specs.Prelude.{◌≤ℤ◌}
use Rattle.std.proofs.lemmas.Int.{ints, to_z-of_z}
use Rattle.cs_codec.proofs.RiseLists.{joins_none_first, joins_none_last, joins_above, joined_above, joined_size}
use Rattle.cs_codec.proofs.differences.DifferencesPart.goes_on.Goals as goal
use Rattle.cs_codec.proofs.differences.DifferencesPart.goes_on.Goals.{then-self-eq0-via-then-self-eq0, then-self-eq0-via-else-self-eq0+then-other-eq0}

pub returns-then-self-other-gt-SEGMENT_ROWS : goal.returns-then-self-other-gt-SEGMENT_ROWS
returns-then-self-other-gt-SEGMENT_ROWS c =
    (λ t. absurd cc, λ h. absurd (omega (arith, joined_size c.self.inside.count c.self.inside.first c.self.inside.gaps.items c.self.inside.last c.other.inside.count c.other.inside.first c.other.inside.gaps.items c.other.inside.last c.args.self.now c.args.other.now c.self.invariant c.other.invariant c.self.view_is c.other.view_is h)))

pub returns-then-self-eq0 : goal.returns-then-self-eq0
returns-then-self-eq0 c = elim c.then-self-eq0.branch [
  | then-self-eq0-via-then-self-eq0 w ↦ (λ t. joins_none_first c.self.inside.count c.self.inside.first c.self.inside.gaps.items c.self.inside.last c.other.inside.count c.other.inside.first c.other.inside.gaps.items c.other.inside.last c.args.self.now c.args.other.now c.self.invariant c.other.invariant c.self.view_is c.other.view_is (omega arith), λ h. search rules)
  | then-self-eq0-via-else-self-eq0+then-other-eq0 w ↦ (λ t. joins_none_last c.self.inside.count c.self.inside.first c.self.inside.gaps.items c.self.inside.last c.other.inside.count c.other.inside.first c.other.inside.gaps.items c.other.inside.last c.args.self.now c.args.other.now c.self.invariant c.other.invariant c.self.view_is c.other.view_is (omega arith), λ h. search rules)
]

pub returns-then-other-self : goal.returns-then-other-self
returns-then-other-self c =
    let one = to_z-of_z w64 c.self.inside.last c.self.invariant.last_fits in
    let two = to_z-of_z w64 c.other.inside.first c.other.invariant.first_fits in
    let lasts = c.self.invariant.last_is in
    (λ t. absurd cc, λ h. let le = joined_above c.self.inside.count c.self.inside.first c.self.inside.gaps.items c.self.inside.last c.other.inside.count c.other.inside.first c.other.inside.gaps.items c.args.self.now c.args.other.now lasts c.self.view_is c.other.view_is (omega arith) (omega arith) h in absurd (omega (arith, ints, le, one, two)))

pub returns : goal.returns
returns c =
    let one = to_z-of_z w64 c.self.inside.last c.self.invariant.last_fits in
    let two = to_z-of_z w64 c.other.inside.first c.other.invariant.first_fits in
    let le : c.self.inside.last ≤ℤ c.other.inside.first = omega (arith, ints, one, two) in
    (λ t. joins_above c.self.inside.count c.self.inside.first c.self.inside.gaps.items c.self.inside.last c.other.inside.count c.other.inside.first c.other.inside.gaps.items c.other.inside.last c.args.self.now c.args.other.now c.self.invariant c.other.invariant c.self.view_is c.other.view_is (omega arith) (omega arith) (omega arith) le, λ h. search rules)
