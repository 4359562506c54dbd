use Rattle.std.proofs.Common.{◌≡◌, ◌*◌, refl, ap, ◌∙◌, arith}
use Rattle.sha2.specs.Sha256.{add_state, compress, rounds, schedule}
use Rattle.cs_digests.specs.Lanes.{lane}
use Rattle.cs_digests.proofs.rounds.compress.Goals as goal

pub rounds-init : goal.rounds-init
unfolding rounds
rounds-init c j b low keyed = refl

pub rounds-preserved : goal.rounds-preserved
rounds-preserved c j b low keyed =
    let h = lane j c.args.state.now in
    let after = rounds h (schedule b 48) in
    let s1 = c.four_steps-v.ensures j b h low keyed (c.rounds.invariant j b low keyed) in
    c.four_steps-v-in-rounds.ensures j b h low keyed s1 ∙ ap after (omega arith)

pub returns : goal.returns
unfolding compress
returns c j low =
    let done : 8 * c.rounds.turn ≡ 64 = omega (arith, c.rounds.auto.turn-end) in
    let last = rw done at (c.rounds.invariant j _ low (c.make_keyed.ensures j low)) in
    rw (
      c.add.ensures j low,
      c.add-2.ensures j low,
      c.add-3.ensures j low,
      c.add-4.ensures j low,
      c.add-5.ensures j low,
      c.add-6.ensures j low,
      c.add-7.ensures j low,
      c.add-8.ensures j low,
    ) (ap (add_state (lane j c.args.state.now)) last)
