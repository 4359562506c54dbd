use Rattle.std.proofs.Common.{◌≡◌, ◌++◌, [], List, ap, arith, get_or, map, subst, sym, ◌∙◌, Some}
use Rattle.std.specs.Prelude.{OnOk, slice_index}
use Rattle.std.proofs.lemmas.List.{get_or_read}
use Rattle.cs_schema.specs.declared.cells.Value.{Value}
use Rattle.cs_schema.specs.Values.{values}
use Rattle.cs_rows.specs.PlanWalks.{anchor_rows_between}
use Rattle.cs_rows.specs.Survivors.{contents_of}
use Rattle.cs_rows.specs.Walk.{At}
use Rattle.cs_rows.proofs.FollowLemmas.{gathered}
use Rattle.cs_rows.proofs.plan_walk.PlanWalk.push_followed.Goals as goal

pub returns-clause-ok : goal.returns-clause-ok
returns-clause-ok c =
    let w = c.args.self.now in
    let C = w.survivors.now.catalog in
    let q = slice_index w.plan.now.source c.args.c in
    let inside = w.fits.source c.args.c c.requires.column in
    let read = w.elsewhere_are.all c.args.c c.requires.column (λ e. c.if-q-anchor.false (c.source-q.ensures ∙ e ∙ sym c.anchor.ensures)) in
    let reached = c.requires.followed.are q inside read in
    let ids : c.as_slice.result.now ≡ get_or c.args.followed.now.ids.items q [] =
    c.as_slice.ensures
    ∙ get_or_read c.args.followed.now.ids.items c.source-q.result c.index.result.now (omega (arith, inside, c.source-q.ensures, c.requires.followed.count)) c.index.ensures []
    ∙ ap (λ n. get_or c.args.followed.now.ids.items n []) c.source-q.ensures in
    subst (λ (l : List Value). OnOk c.push_rows.result (values c.push_rows.new.cells ≡ values c.args.cells.now ++ l))
    (gathered C (contents_of w.survivors.now) w.plan.now c.args.c (anchor_rows_between w c.args.followed.now.from c.args.followed.now.to) c.as_slice.result.now (ap (map (λ (id : At). Some id)) ids ∙ reached.are))
    c.push_rows.ensures.ok
