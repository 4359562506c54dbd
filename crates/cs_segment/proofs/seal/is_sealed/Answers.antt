use Rattle.cs_segment.proofs.Sealing.{sealed_or_not}
use Rattle.cs_segment.proofs.seal.is_sealed.Goals as goal

pub returns : goal.returns
returns c = sealed_or_not c.args.bytes.now c.unseal.result c.unseal.ensures.found c.unseal.ensures.none c.is_some.result c.is_some.ensures
