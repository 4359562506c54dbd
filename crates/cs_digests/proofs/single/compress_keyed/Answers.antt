use Rattle.std.proofs.Common.{◌≡◌, ◌*◌, refl, ap, ◌∙◌, arith}
use Rattle.sha2.specs.Sha256.{add_state, compress, rounds, schedule}
use Rattle.cs_digests.proofs.single.compress_keyed.Goals as goal

pub rounds-init : goal.rounds-init
unfolding rounds
rounds-init c b keyed = refl

pub rounds-preserved : goal.rounds-preserved
rounds-preserved c b keyed =
    let after = rounds c.args.hash (schedule b 48) in
    let s1 = c.four_steps-v.ensures b c.args.hash keyed (c.rounds.invariant b keyed) in
    c.four_steps-v-in-rounds.ensures b c.args.hash keyed s1 ∙ ap after (omega arith)

pub returns : goal.returns
unfolding compress
returns c b keyed =
    let done : 8 * c.rounds.turn ≡ 64 = omega (arith, c.rounds.auto.turn-end) in
    ap (add_state c.args.hash) (rw done at (c.rounds.invariant b keyed))
