use Rattle.cs_rows.proofs.FollowLemmas.{index_is}
use Rattle.cs_rows.proofs.RowLemmas.{read_there}
use Rattle.cs_rows.proofs.plan_walk.PlanWalk.text_room.Goals as goal

pub column-column-requires : goal.column-column-requires
column-column-requires c =
    let w = c.args.self.now in
    (read_there w.survivors.now.catalog w.plan.now w.fits c.args.c c.requires c.source-q.result c.index-j.result.now c.in-Some.image.now.kinds c.source-q.ensures (index_is w c.args.c c.requires c.index-j.result.now c.index-j.ensures) c.in-Some.ensures.kinds).0
