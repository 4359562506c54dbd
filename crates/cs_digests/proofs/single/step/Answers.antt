use Rattle.std.proofs.Common.{sym, ◌∙◌, ap, slice_index, arith}
use Rattle.sha2.specs.Sha256.{round, round_constants, schedule}
use Rattle.sha2.proofs.Schedule256.{rounds_next}
use Rattle.cs_digests.proofs.single.step.Goals as goal

pub returns : goal.returns
returns c = λ b h keyed held.
    let t = c.args.t in
    let w = schedule b 48 in
    c.round.ensures (slice_index round_constants t) (slice_index w t) (keyed.each t (omega arith))
    ∙ ap (λ v. round v (slice_index round_constants t) (slice_index w t)) held
    ∙ sym (rounds_next h w t)
