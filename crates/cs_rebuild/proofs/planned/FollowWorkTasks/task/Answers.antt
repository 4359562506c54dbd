use Rattle.std.proofs.Common.{◌+◌, ◌*◌, List, Some, sym, ap, subst, ◌∙◌, ℕ, inr}
use Rattle.std.specs.List.{find}
use Rattle.std.specs.Option.{option_map}
use Rattle.std.proofs.lemmas.List.{drop-take}
use Rattle.cs_store.specs.declared.fault.Fault.{Fault}
use Rattle.cs_rows.specs.Columns.{IsRowFault}
use Rattle.cs_rows.specs.Range.{rows_between}
use Rattle.cs_rows.specs.Survivors.{contents_of}
use Rattle.cs_rows.specs.Walk.{At, is_astray, projection_rows}
use Rattle.cs_rebuild.specs.Walking.{stray_fault}
use Rattle.cs_rebuild.proofs.planned.FollowWorkTasks.task.Goals as goal

pub returns-in-Ok-clause-ok : goal.returns-in-Ok-clause-ok
returns-in-Ok-clause-ok c =
    let w = c.args.self.now in
    let C = w.walk.now.survivors.now.catalog in
    let S = contents_of w.walk.now.survivors.now in
    let P = w.walk.now.plan.now in
    let is = drop-take (c.args.i * w.cut) w.cut (projection_rows C S P.anchor) in
    (sym (ap (λ (l : List At). option_map (stray_fault P) (find (is_astray C S P) l)) (sym is) ∙ ap (option_map (stray_fault P)) c.in-Ok.ensures.sound), record { is = c.in-Ok.ensures.followed; from = c.in-Ok.ensures.range.0; to = c.in-Ok.ensures.range.1 })

pub returns-in-Err-Astray-clause-err : goal.returns-in-Err-Astray-clause-err
returns-in-Err-Astray-clause-err c =
    let w = c.args.self.now in
    let C = w.walk.now.survivors.now.catalog in
    let S = contents_of w.walk.now.survivors.now in
    let P = w.walk.now.plan.now in
    let is = drop-take (c.args.i * w.cut) w.cut (projection_rows C S P.anchor) in
    let at = subst (IsRowFault C S P (rows_between C S P (c.args.i * w.cut) (c.args.i * w.cut + w.cut))) c.in-Err-Astray.field-0-is c.in-Err-Astray.ensures.fault in
    inr (ap (λ (p : ℕ). Some (Fault.Astray p c.in-Err-Astray.s c.in-Err-Astray.row)) at.0 ∙ sym (ap (λ (l : List At). option_map (stray_fault P) (find (is_astray C S P) l)) (sym is) ∙ ap (option_map (stray_fault P)) at.1))
