use Rattle.std.proofs.Common.{◌-◌, ℕ}
use Rattle.cs_rows.specs.Survivors.{contents_of}
use Rattle.cs_rows.specs.Superprojections.{HasAll}
use Rattle.cs_rows.specs.RowSteps.{reached_from}
use Rattle.cs_rows.proofs.Superprojections.{own_grow, all_of}
use Rattle.cs_rows.proofs.levels.RowWalk.walk_superprojection.Goals as goal

pub returns-clause-cells : goal.returns-clause-cells
returns-clause-cells c =
    let C = c.args.self.now.survivors.now.catalog in
    let p : ℕ = c.args.segment.0 in
    let n : ℕ = c.args.rows.1 - c.args.rows.0 in
    own_grow C c.args.self.now.loss (contents_of c.args.self.now.survivors.now) c.args.self.now.fresh_only c.projection_count-rules.ensures.rules.key (reached_from p c.args.segment.1 c.args.rows.0 n) c.args.columns.now.items c.copy_rows.new.columns.items (all_of (HasAll C) p c.args.segment.1 c.args.rows.0 n c.requires.all) c.in-Ok.ensures.sound c.in_ok-copy_rows.ensures.cells
