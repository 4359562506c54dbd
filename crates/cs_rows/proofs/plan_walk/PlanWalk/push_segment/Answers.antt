use Rattle.std.proofs.Common.{◌≡◌, ◌++◌, ◌-◌, ◌∙◌, List, ap, drop, subst, sym, take}
use Rattle.std.specs.Prelude.{OnOk}
use Rattle.cs_schema.specs.declared.cells.Value.{Value}
use Rattle.cs_schema.specs.Values.{values}
use Rattle.cs_rows.specs.Survivors.{contents_of}
use Rattle.cs_rows.proofs.FollowLemmas.{index_is}
use Rattle.cs_rows.proofs.WholeLemmas.{column_of_image, part_walked}
use Rattle.cs_rows.proofs.plan_walk.PlanWalk.push_segment.Goals as goal

pub column-requires : goal.column-requires
column-requires c =
    let w = c.args.self.now in
    (column_of_image w.survivors.now.catalog w.survivors.now w.plan.now w.fits c.args.c c.requires.column c.requires.read c.anchor-anchor.result c.index.result.now c.args.s c.in-Some.image.now c.anchor-anchor.ensures (index_is w c.args.c c.requires.column c.index.result.now c.index.ensures) c.in-Some.ensures.image c.in-Some.ensures.kinds).0

pub extend-requires-clause-kinds : goal.extend-requires-clause-kinds
extend-requires-clause-kinds c =
    let w = c.args.self.now in
    let there = column_of_image w.survivors.now.catalog w.survivors.now w.plan.now w.fits c.args.c c.requires.column c.requires.read c.anchor-anchor.result c.index.result.now c.args.s c.in-Some.image.now c.anchor-anchor.ensures (index_is w c.args.c c.requires.column c.index.result.now c.index.ensures) c.in-Some.ensures.image c.in-Some.ensures.kinds in
    c.requires.kind ∙ sym (c.column.ensures.kind ∙ there.1)

pub returns-in-Some-clause-ok : goal.returns-in-Some-clause-ok
returns-in-Some-clause-ok c =
    let w = c.args.self.now in
    let there = column_of_image w.survivors.now.catalog w.survivors.now w.plan.now w.fits c.args.c c.requires.column c.requires.read c.anchor-anchor.result c.index.result.now c.args.s c.in-Some.image.now c.anchor-anchor.ensures (index_is w c.args.c c.requires.column c.index.result.now c.index.ensures) c.in-Some.ensures.image c.in-Some.ensures.kinds in
    let walked = part_walked w.survivors.now.catalog (contents_of w.survivors.now) w.plan.now c.args.c c.requires.read c.args.s c.args.rows.0 c.args.rows.1 c.requires.order c.requires.within in
    subst (λ (l : List Value). OnOk c.extend.result (values c.extend.new.self ≡ values c.args.cells.now ++ l)) (ap (λ (l : List Value). take (c.args.rows.1 - c.args.rows.0) (drop c.args.rows.0 l)) (c.column.ensures.values ∙ there.2) ∙ walked) c.extend.ensures.values
