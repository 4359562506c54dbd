use Rattle.std.proofs.Common.{arith, rules}
use Rattle.cs_codec.proofs.CellLemmas.{int_none, int_stands_as}
use Rattle.cs_codec.proofs.cell.read_int.Goals as goal

pub returns-in_err-bits-clause-none : goal.returns-in_err-bits-clause-none
returns-in_err-bits-clause-none c = rw c.from_residual.ensures (int_none c.args.text.now c.args.at c.in_err-bits.ensures)

pub returns-clause-found : goal.returns-clause-found
returns-clause-found c =
    int_stands_as c.args.text.now c.args.at c.in_ok-bits.bits c.cast_signed.result (λ i. omega (arith, c.type_inv.text i)) (search rules) c.in_ok-bits.ensures.0 c.in_ok-bits.ensures.1 c.cast_signed.ensures
