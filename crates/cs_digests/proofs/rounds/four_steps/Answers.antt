use Rattle.std.proofs.Common.{ap, ◌∙◌, arith}
use Rattle.sha2.specs.Sha256.{rounds, schedule}
use Rattle.cs_digests.proofs.rounds.four_steps.Goals as goal

pub returns : goal.returns
returns c = λ j b h low keyed held.
    let after = rounds h (schedule b 48) in
    let s1 = c.step-v.ensures j b h low keyed held in
    let s2 = c.step-v-2.ensures j b h low keyed s1 in
    let s3 = c.step-v-3.ensures j b h low keyed (s2 ∙ ap after (omega arith)) in
    c.step.ensures j b h low keyed (s3 ∙ ap after (omega arith)) ∙ ap after (omega arith)
