use Rattle.std.proofs.Common.{◌*◌, ◌+◌, ◌/◌, ◌≤◌, length, length-drop, ap, ◌∙◌, arith}
use Rattle.std.proofs.lemmas.List.{append-nil}
use Rattle.sha2.specs.Sha256.{hash_after, initial_hash_256}
use Rattle.cs_digests.proofs.HashLemmas.{hash_after_more}
use Rattle.cs_digests.proofs.taking.GrowingDigest.take_in.Goals as goal

pub returns : goal.returns
returns c =
    let m = c.args.message.now in
    let k = c.args.self.now.done in
    let left = c.rest_after-left.ensures in
    let within = c.requires.within in
    let long = ap length left ∙ length-drop (k * 64) m in
    let n = length c.rest_after-left.result.now / 64 in
    let done : (k + n) * 64 ≤ length m = omega (arith, within, long) in
    let rest = c.block_of-self.ensures ∙ append-nil c.rest_after.result.now ∙ c.rest_after.ensures in
    let less = ap length rest ∙ length-drop ((k + n) * 64) m in
    record {
      taken = record {
        within = done;
        is = c.absorb.ensures ∙ (λ i. hash_after (c.requires.is i) (left i) n) ∙ hash_after_more initial_hash_256 m k n;
      };
      rest_is = rest;
      short = omega (arith, within, long, less);
      fits = omega (arith, done);
    }
