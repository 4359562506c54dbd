use Rattle.cs_rebuild.proofs.Sealing.{in_permuted}
use Rattle.cs_rebuild.proofs.digests.longest_first.Goals as goal

pub returns : goal.returns
returns c = λ f is. in_permuted c.args.files.items _ c.sort_unstable_by_key.ensures.permutation f is
