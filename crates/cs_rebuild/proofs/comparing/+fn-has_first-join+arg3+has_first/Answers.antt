use Rattle.std.proofs.Common.{◌-◌, arith}
use Rattle.cs_schema.specs.Values.{values}
use Rattle.cs_rebuild.proofs.Compared.{one_more_part}
use Rattle.cs_rebuild.proofs.comparing.+fn-has_first-join+arg3+has_first.Goals as goal

pub returns-then-here : goal.returns-then-here
returns-then-here g t c = (
  λ e. one_more_part (values c.args.cells.now) (values c.args.column.now) c.args.numbers.now (c.args.end - 131072) c.args.end (c.join-here.ensures.second.0 e) (c.join-here.ensures.first.0 c.if-here.true),
  λ h. c.join-here.ensures.second.1 (λ k z l. h k z (omega (arith, l))),
)
