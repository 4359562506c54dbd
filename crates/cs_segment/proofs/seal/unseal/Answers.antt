use Rattle.std.proofs.Common.{◌≡◌, arith, ap, length, sym, ◌∙◌}
use Rattle.std.proofs.lemmas.Slice.Eq.{bytes_eq-Decides}
use Rattle.std.proofs.lemmas.Bool.{false≢true}
use Rattle.sha2.specs.Sha256.{sha256}
use Rattle.cs_segment.proofs.Sealing.{length-sealed, body_of_sealed, digest_of_sealed}
use Rattle.cs_segment.proofs.seal.unseal.Goals as goal

pub returns-then-bytes-lt-DIGEST-clause-none : goal.returns-then-bytes-lt-DIGEST-clause-none
returns-then-bytes-lt-DIGEST-clause-none c = λ body e. omega (arith, ap length e, length-sealed body)

pub returns-else-eq-clause-none : goal.returns-else-eq-clause-none
returns-else-eq-clause-none c = λ body e.
    let same = body_of_sealed c.args.bytes.now body e in
    let digest = digest_of_sealed c.args.bytes.now body e in
    let ends : c.split_at.result.1.now ≡ c.as_slice.result.now =
    c.split_at.ensures.back ∙ sym digest ∙ ap sha256 (same ∙ sym c.split_at.ensures.front) ∙ sym c.digest_of-digest.ensures ∙ sym c.as_slice.ensures in
    false≢true (c.if-eq.ensures ∙ (bytes_eq-Decides c.split_at.result.1.now c.as_slice.result.now).1 ends)
