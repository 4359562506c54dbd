use Rattle.cs_delta.proofs.HeadTexts.{no_first, no_second}
use Rattle.cs_delta.proofs.reading.read_head.Goals as goal

pub returns-in_err-rows-clause-none : goal.returns-in_err-rows-clause-none
returns-in_err-rows-clause-none c = rw c.from_residual.ensures (λ version layers rows top rest h.
    no_first c.args.p c.args.s c.args.bytes.now c.in-Some.named.now version layers rows top rest c.in-Some.ensures.found c.in_err-rows.ensures.none h)

pub returns-in_err-rows-2-clause-none : goal.returns-in_err-rows-2-clause-none
returns-in_err-rows-2-clause-none c = rw c.from_residual-in_err-rows-2.ensures (λ version layers rows top rest h.
    no_second c.args.p c.args.s c.args.bytes.now c.in_ok-named.named.now version layers rows top rest c.in_ok-named.ensures.found c.in_err-rows-2.ensures.none h)
