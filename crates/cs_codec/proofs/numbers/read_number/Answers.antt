use Rattle.std.proofs.Common.{arith}
use Rattle.cs_codec.proofs.CellLemmas.{number_found, number_none}
use Rattle.cs_codec.proofs.numbers.read_number.Goals as goal

pub returns-clause-found : goal.returns-clause-found
returns-clause-found c = number_found c.u32_at.result c.args.text.now c.args.at (λ i. omega (arith, c.type_inv.text i)) c.u32_at.ensures

pub returns-clause-none : goal.returns-clause-none
returns-clause-none c = number_none c.u32_at.result c.args.text.now c.args.at c.u32_at.ensures
