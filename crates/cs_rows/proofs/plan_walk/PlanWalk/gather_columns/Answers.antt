use Rattle.std.proofs.Common.{◌≡◌, ◌+◌, map, length, ap, ◌∙◌, length-append}
use Rattle.cs_schema.specs.CatalogData.{column}
use Rattle.cs_schema.specs.Rows.{cell}
use Rattle.cs_schema.specs.Values.{values, kind_of}
use Rattle.cs_rows.specs.PlanWalks.{followed_rows}
use Rattle.cs_rows.proofs.AppendLemmas.{each_more}
use Rattle.cs_rows.proofs.plan_walk.PlanWalk.gather_columns.Goals as goal

pub loop-c-preserved : goal.loop-c-preserved
loop-c-preserved c =
    let C = c.args.self.now.survivors.now.catalog in
    let rows = followed_rows c.args.self.now c.args.parts.now in
    let more = c.in_ok-push.ensures.items in
    record {
      count = ap length more ∙ length-append c.loop-c.columns.items _ ∙ ap (λ n. n + 1) c.loop-c.invariant.count;
      kinds = each_more (λ k x. kind_of x ≡ (column C k).kind) _ _ _ c.loop-c.c more c.loop-c.invariant.count c.loop-c.invariant.kinds c.in_ok-gather.ensures.kind;
      cells = each_more (λ k x. values x ≡ map (λ row. cell row k) rows) _ _ _ c.loop-c.c more c.loop-c.invariant.count c.loop-c.invariant.cells c.in_ok-gather.ensures.cells;
    }
