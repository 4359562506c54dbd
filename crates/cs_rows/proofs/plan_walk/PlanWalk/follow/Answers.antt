use Rattle.std.proofs.Common.{[], ◌∙◌, subst, sym}
use Rattle.cs_rows.specs.Columns.{AreReachedIn}
use Rattle.cs_rows.specs.Survivors.{contents_of}
use Rattle.cs_rows.proofs.FollowLemmas.{reached_none}
use Rattle.cs_rows.proofs.plan_walk.PlanWalk.follow.Goals as goal

pub returns-in-Ok-follow_segments-clause-followed : goal.returns-in-Ok-follow_segments-clause-followed
returns-in-Ok-follow_segments-clause-followed c =
    let C = c.args.self.now.survivors.now.catalog in
    let S = contents_of c.args.self.now.survivors.now in
    let P = c.args.self.now.plan.now in
    record {
      count = c.in-Ok-follow_segments.ensures.ids ∙ c.in-Ok.ensures.count;
      order = c.requires.order;
      are = c.in-Ok-follow_segments.ensures.followed [] (λ q h read. subst (AreReachedIn C S P q []) (sym (c.in-Ok.ensures.none q)) (reached_none C S P q));
    }
