use Rattle.std.proofs.Common.{◌∙◌}
use Rattle.cs_schema.specs.Values.{values}
use Rattle.cs_rows.proofs.FollowLemmas.{part_more}
use Rattle.cs_rows.proofs.plan_walk.PlanWalk.gather.Goals as goal

pub loop-part-preserved : goal.loop-part-preserved
loop-part-preserved c = record {
  kind = c.in_ok-push_followed.ensures.kind ∙ c.loop-part.invariant.kind;
  cells = c.in_ok-push_followed.ensures.ok ∙ part_more c.args.self.now c.args.c c.requires.column c.args.parts.now c.loop-part.part-index c.part-item.result (values c.loop-part.cells) c.loop-part-test.true c.part-item.is c.loop-part.invariant.cells;
}
