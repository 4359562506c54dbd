use Rattle.std.proofs.Common.{sym}
use Rattle.cs_schema.specs.LossBits.{has_bit}
use Rattle.cs_schema.proofs.LossLemmas.{are_sites}
use Rattle.cs_schema.proofs.loss.Loss.has.Goals as goal

pub returns-clause-value : goal.returns-clause-value
returns-clause-value c = rw (← c.self.view_is) (sym (has_bit c.self.inside.bits c.args.site c.requires.low c.requires.high))

pub returns-clause-sites : goal.returns-clause-sites
returns-clause-sites c = rw (← c.self.view_is) (are_sites c.self.inside.bits)
