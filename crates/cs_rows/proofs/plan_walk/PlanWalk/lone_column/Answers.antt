use Rattle.std.proofs.Common.{◌≡◌, ◌∙◌, List, [], ap, map, refl, subst, sym}
use Rattle.std.specs.Prelude.{slice_index}
use Rattle.cs_schema.specs.declared.cells.Value.{Value}
use Rattle.cs_schema.specs.Values.{values}
use Rattle.cs_schema.specs.CatalogData.{segments}
use Rattle.cs_rows.specs.Survivors.{contents_of}
use Rattle.cs_rows.specs.Walk.{projection_rows, walked_cell}
use Rattle.cs_rows.proofs.FollowLemmas.{index_is}
use Rattle.cs_rows.proofs.RangeLemmas.{done}
use Rattle.cs_rows.proofs.WholeLemmas.{cells_of_rows, column_of_image, more_cells}
use Rattle.cs_rows.proofs.plan_walk.PlanWalk.lone_column.Goals as goal

pub column-requires : goal.column-requires
column-requires c =
    let w = c.args.self.now in
    let read : slice_index w.plan.now.source c.args.c ≡ w.plan.now.anchor = sym c.source.ensures ∙ c.if-source-anchor.false ∙ c.anchor-anchor.ensures in
    (column_of_image w.survivors.now.catalog w.survivors.now w.plan.now w.fits c.args.c c.requires.column read c.anchor-anchor.result c.index.result.now 0 c.in-Some.image.now c.anchor-anchor.ensures (index_is w c.args.c c.requires.column c.index.result.now c.index.ensures) c.in-Some.ensures.image c.in-Some.ensures.kinds).0

pub returns-in-Some-clause-kind : goal.returns-in-Some-clause-kind
returns-in-Some-clause-kind c =
    let w = c.args.self.now in
    let read : slice_index w.plan.now.source c.args.c ≡ w.plan.now.anchor = sym c.source.ensures ∙ c.if-source-anchor.false ∙ c.anchor-anchor.ensures in
    c.column.ensures.kind
    ∙ (column_of_image w.survivors.now.catalog w.survivors.now w.plan.now w.fits c.args.c c.requires.column read c.anchor-anchor.result c.index.result.now 0 c.in-Some.image.now c.anchor-anchor.ensures (index_is w c.args.c c.requires.column c.index.result.now c.index.ensures) c.in-Some.ensures.image c.in-Some.ensures.kinds).1

pub returns-in-Some-clause-cells : goal.returns-in-Some-clause-cells
returns-in-Some-clause-cells c =
    let w = c.args.self.now in
    let C = w.survivors.now.catalog in
    let S = contents_of w.survivors.now in
    let P = w.plan.now in
    let read : slice_index P.source c.args.c ≡ P.anchor = sym c.source.ensures ∙ c.if-source-anchor.false ∙ c.anchor-anchor.ensures in
    let one : segments C P.anchor ≡ 1 = sym (c.segments.ensures.count ∙ ap (segments C) c.anchor-anchor.ensures) ∙ c.if-segments-ne1.false in
    let there = column_of_image C w.survivors.now P w.fits c.args.c c.requires.column read c.anchor-anchor.result c.index.result.now 0 c.in-Some.image.now c.anchor-anchor.ensures (index_is w c.args.c c.requires.column c.index.result.now c.index.ensures) c.in-Some.ensures.image c.in-Some.ensures.kinds in
    let held = c.column.ensures.values ∙ there.2 ∙ more_cells C S P c.args.c read 0 [] refl ∙ ap (λ n. map (λ at. walked_cell C S P at c.args.c) (done S P.anchor n)) (sym one) in
    subst (λ (l : List Value). values c.column.result.now ≡ l) (cells_of_rows C S P c.args.c c.requires.column (projection_rows C S P.anchor)) held
