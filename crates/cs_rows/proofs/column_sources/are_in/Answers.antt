use Rattle.std.proofs.Common.{rules, arith}
use Rattle.cs_rows.proofs.SourceLemmas.{same_numbers}
use Rattle.cs_rows.proofs.column_sources.are_in.Goals as goal

pub returns : goal.returns
returns c = (λ told. same_numbers c.args.reached.now c.args.projections.now (omega (arith, c.if-reached-projections.false)) (λ k h. c.loop-at.invariant k (omega arith)), λ same. search rules)
