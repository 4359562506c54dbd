use Rattle.std.proofs.Common.{◌≡◌, refl, sym, ap, ◌∙◌, slice_index}
use Rattle.sha2.specs.Sha256.{add32, big_sigma1, ch}
use Rattle.cs_digests.specs.Lanes.{lane}
use Rattle.cs_digests.proofs.HashLemmas.{sum_later}
use Rattle.cs_digests.proofs.rounds.round.Goals as goal

pub returns : goal.returns
returns c j k w low e =
    let v = lane j c.args.v in
    let x = add32 (add32 (slice_index v 7) (big_sigma1 (slice_index v 4))) (ch (slice_index v 4) (slice_index v 5) (slice_index v 6)) in
    let same : add32 x (slice_index c.args.keys j) ≡ add32 (add32 x k) w = ap (add32 x) e ∙ sym (sum_later x k w) in
    rw (
      c.add-4.ensures j low,
      c.add-3.ensures j low,
      c.add-temp2.ensures j low,
      c.big_sigma0.ensures j low,
      c.maj.ensures j low,
      c.add-temp1.ensures j low,
      c.add-2.ensures j low,
      c.add.ensures j low,
      c.ch.ensures j low,
      c.big_sigma1.ensures j low,
      same,
    ) refl
