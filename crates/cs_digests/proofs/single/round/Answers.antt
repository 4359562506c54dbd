use Rattle.std.proofs.Common.{◌≡◌, refl, sym, ap, ◌∙◌, slice_index}
use Rattle.sha2.specs.Sha256.{add32, big_sigma1, ch}
use Rattle.cs_digests.proofs.HashLemmas.{sum_later}
use Rattle.cs_digests.proofs.single.round.Goals as goal

pub returns : goal.returns
returns c k w e =
    let v = c.args.v in
    let x = add32 (add32 (slice_index v 7) (big_sigma1 (slice_index v 4))) (ch (slice_index v 4) (slice_index v 5) (slice_index v 6)) in
    let same : add32 x c.args.key ≡ add32 (add32 x k) w = ap (add32 x) e ∙ sym (sum_later x k w) in
    rw (c.big_sigma1.ensures, c.ch.ensures, c.big_sigma0.ensures, c.maj.ensures, same) refl
