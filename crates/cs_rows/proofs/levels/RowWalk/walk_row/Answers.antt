use Rattle.std.proofs.Common.{Bool, Some, None, ap, cond, ◌∙◌}
use Rattle.cs_rows.specs.Survivors.{contents_of}
use Rattle.cs_rows.specs.WalkByRows.{Found}
use Rattle.cs_rows.proofs.FoundRows.{grows_found}
use Rattle.cs_rows.proofs.levels.RowWalk.walk_row.Goals as goal

pub returns-clause-cells : goal.returns-clause-cells
returns-clause-cells c =
    let F : Found = c.walk_from.new.reached_rows in
    grows_found c.args.self.now.survivors.now.catalog c.args.self.now.loss (contents_of c.args.self.now.survivors.now) c.args.self.now.fresh_only c.args.row F c.args.columns.now.items c.push_found.new.columns.items
    (c.in_ok-walk_from.ensures.found ∙ ap (λ (b : Bool). cond b (Some F) None) c.if-not-branch.false)
    c.in_ok-push_found.ensures.given c.in_ok-push_found.ensures.not_given
