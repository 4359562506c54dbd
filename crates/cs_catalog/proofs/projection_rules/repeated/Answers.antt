use Rattle.std.proofs.Common.{sym}
use Rattle.cs_catalog.proofs.Repeats.{distinct_more, repeats}
use Rattle.cs_catalog.proofs.projection_rules.repeated.Goals as goal

pub returns-then-is_among : goal.returns-then-is_among
returns-then-is_among c = sym (repeats c.args.names.now c.loop-at.at _ c.loop-at-test.true (sym c.if-is_among.ensures))

pub loop-at-preserved : goal.loop-at-preserved
loop-at-preserved c = distinct_more c.args.names.now c.loop-at.at _ c.loop-at-test.true c.loop-at.invariant (sym c.if-is_among.ensures)
