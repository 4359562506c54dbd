use Rattle.std.proofs.Common.{◌+◌, ◌*◌, List, sym, ap, subst, ◌∙◌, inr}
use Rattle.cs_rows.specs.Range.{IsWalkFault}
use Rattle.cs_schema.specs.Rows.{Row}
use Rattle.cs_rows.specs.Survivors.{contents_of}
use Rattle.cs_rows.specs.Walk.{Stray}
use Rattle.cs_rows.specs.WalkByRows.{Reached, surviving_rows}
use Rattle.cs_rows.specs.RangeByRows.{is_stray_row, fresh_row, fresh_among, surviving_between}
use Rattle.std.specs.List.{filter_map}
use Rattle.cs_rebuild.proofs.WalkPieces.{among, none_astray, one_astray, piece_is}
use Rattle.cs_rebuild.proofs.rowwise.RowsWorkTasks.task.Goals as goal

pub returns-in-Ok-clause-ok : goal.returns-in-Ok-clause-ok
returns-in-Ok-clause-ok c =
    let w = c.args.self.now in
    let C = w.catalog.now in
    let S = contents_of w.survivors.now in
    let L = w.loss in
    let e : Reached → Stray = λ x. (x.0, x.1.0, x.1.1) in
    let f : List Reached → List Row = filter_map (fresh_row C L S) in
    let is = piece_is (is_stray_row C L S) e f (surviving_rows C L S) w.cut c.args.i in
    let r = none_astray (is_stray_row C L S) e f _ c.in-Ok.walked.rows (c.in-Ok.ensures.rows ∙ ap (among (is_stray_row C L S) e f) is) in
    (sym (ap (Rattle.std.specs.Option.option_map (λ (x : Reached). Rattle.cs_store.specs.declared.fault.Fault.Fault.Astray x.0 x.1.0 x.1.1)) r.0), (c.in-Ok.ensures.kinds, r.1))

pub returns-in-Err-Astray-clause-err : goal.returns-in-Err-Astray-clause-err
returns-in-Err-Astray-clause-err c =
    let w = c.args.self.now in
    let C = w.catalog.now in
    let S = contents_of w.survivors.now in
    let L = w.loss in
    let e : Reached → Stray = λ x. (x.0, x.1.0, x.1.1) in
    let f : List Reached → List Row = filter_map (fresh_row C L S) in
    let is = piece_is (is_stray_row C L S) e f (surviving_rows C L S) w.cut c.args.i in
    inr (one_astray (is_stray_row C L S) e f _ (c.in-Err-Astray.p, c.in-Err-Astray.s, c.in-Err-Astray.row) (ap (among (is_stray_row C L S) e f) (sym is) ∙ subst (IsWalkFault (fresh_among C L S (surviving_between C L S (c.args.i * w.cut) (c.args.i * w.cut + w.cut)))) c.in-Err-Astray.field-0-is c.in-Err-Astray.ensures.fault))
