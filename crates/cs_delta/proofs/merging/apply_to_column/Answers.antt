use Rattle.std.proofs.Common.{◌-◌, take, drop, pos, List, [], ◌∷◌, ◌++◌, ap, subst, ◌∙◌, cond, Some, None, Bool, eq-eqb}
use Rattle.std.specs.List.{cons_option}
use Rattle.cs_schema.specs.declared.cells.Value.{Value}
use Rattle.cs_schema.specs.Values.{values}
use Rattle.cs_schema.specs.Rows.{cell}
use Rattle.cs_delta.specs.declared.item.Item.{Item}
use Rattle.cs_delta.specs.Edits.{Edit}
use Rattle.cs_delta.specs.ItemView.{change_of, cell_edits}
use Rattle.cs_delta.specs.MergeSteps.{Makes}
use Rattle.cs_delta.proofs.MakeSteps.{put_makes, cut_makes, change_makes}
use Rattle.cs_delta.proofs.merging.apply_to_column.Goals as goal

pub returns-in_ok-push-in-Insert-clause-steps : goal.returns-in_ok-push-in-Insert-clause-steps
returns-in_ok-push-in-Insert-clause-steps c = λ rest target m.
    let P : Item → Type 0 = λ i. Makes (values c.args.base.now) target (values c.args.out.now) c.args.done (cell_edits c.args.j (change_of i ∷ rest)) in
    put_makes (values c.args.base.now) target (values c.args.out.now) (values c.push.new.out) c.args.done c.in-Insert.at (cell c.in-Insert.row c.args.j) (cell_edits c.args.j rest)
    (subst P c.in-Insert.is m)
    (c.in_ok-push-in-Insert.ensures.values ∙ ap (λ (a : List Value). a ++ c.cell.result ∷ []) c.in_ok-extend-in-Insert.ensures.values ∙ ap (λ (v : Value). (values c.args.out.now ++ take (c.in-Insert.at - c.args.done) (drop c.args.done (values c.args.base.now))) ++ v ∷ []) c.cell.ensures)

pub returns-in_ok-extend-in-Delete-clause-steps : goal.returns-in_ok-extend-in-Delete-clause-steps
returns-in_ok-extend-in-Delete-clause-steps c = λ rest target m.
    let P : Item → Type 0 = λ i. Makes (values c.args.base.now) target (values c.args.out.now) c.args.done (cell_edits c.args.j (change_of i ∷ rest)) in
    cut_makes (values c.args.base.now) target (values c.args.out.now) (values c.extend-in-Delete.new.self) c.args.done c.in-Delete.at (Value.Int (pos 0)) (cell_edits c.args.j rest)
    (subst P c.in-Delete.is m)
    c.in_ok-extend-in-Delete.ensures.values

pub returns-in_ok-push-in-Modify-clause-steps : goal.returns-in_ok-push-in-Modify-clause-steps
returns-in_ok-push-in-Modify-clause-steps c = λ rest target m.
    let P : Item → Type 0 = λ i. Makes (values c.args.base.now) target (values c.args.out.now) c.args.done (cell_edits c.args.j (change_of i ∷ rest)) in
    let E : Bool → Type 0 = λ b. Makes (values c.args.base.now) target (values c.args.out.now) c.args.done (cons_option (cond b (Some (Edit.change c.in-Modify.at c.in-Modify.value)) None) (cell_edits c.args.j rest)) in
    change_makes (values c.args.base.now) target (values c.args.out.now) (values c.push-in-Modify.new.out) c.args.done c.in-Modify.at (Value.Int (pos 0)) c.in-Modify.value (cell_edits c.args.j rest)
    (subst E (eq-eqb c.in-Modify.column c.args.j c.if-column-j.false) (subst P c.in-Modify.is m))
    (c.in_ok-push-in-Modify.ensures.values ∙ ap (λ (a : List Value). a ++ c.in-Modify.value ∷ []) c.in_ok-extend-in-Modify.ensures.values)
