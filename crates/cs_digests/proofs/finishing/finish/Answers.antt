use Rattle.std.proofs.Common.{ap, ◌∙◌}
use Rattle.std.specs.Prelude.{List, ℕ}
use Rattle.sha2.specs.Sha256.{digest_bytes, sha256}
use Rattle.cs_digests.proofs.finishing.finish.Goals as goal

pub returns : goal.returns
unfolding sha256
returns c = c.bytes_of.ensures ∙ ap (λ (h : List ℕ). digest_bytes h 8) c.after_padding.ensures
