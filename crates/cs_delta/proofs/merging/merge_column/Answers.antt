use Rattle.std.proofs.Common.{◌≡◌, ◌-◌, ◌+◌, List, [], ◌++◌, length, take, drop, sym, ap, subst, ◌∙◌, arith}
use Rattle.std.proofs.lemmas.List.{drop_all}
use Rattle.std.proofs.lemmas.Option.{get_or_from_slice_get}
use Rattle.cs_schema.specs.Values.{values}
use Rattle.cs_delta.specs.Image.{Change}
use Rattle.cs_delta.specs.Edits.{AreEdits, edited_from}
use Rattle.cs_delta.specs.ItemView.{change_of, cell_edit, cell_edits}
use Rattle.cs_delta.specs.MergeSteps.{Makes}
use Rattle.cs_delta.proofs.MakeSteps.{made_all, drop_item, stands_in, first_edit}
use Rattle.cs_delta.proofs.merging.merge_column.Goals as goal

pub apply_to_column-requires-clause-fits : goal.apply_to_column-requires-clause-fits
apply_to_column-requires-clause-fits c =
    let item = change_of c.item.result in
    c.requires.fits item (stands_in c.args.layer.now c.loop-i.i item (omega arith) (sym (get_or_from_slice_get c.args.layer.now c.loop-i.i item item c.item.ensures)))

pub apply_to_column-requires-clause-edit : goal.apply_to_column-requires-clause-edit
apply_to_column-requires-clause-edit c =
    let layer = c.args.layer.now in
    let item = change_of c.item.result in
    let n = length (values c.args.base.now) in
    let A : List Change → Type 0 = λ xs. AreEdits n c.loop-i.done (cell_edits c.args.j xs) in
    first_edit n c.loop-i.done (cell_edit c.args.j item) (cell_edits c.args.j (drop (c.loop-i.i + 1) layer)) (subst A (drop_item layer c.loop-i.i item (omega arith) (sym (get_or_from_slice_get layer c.loop-i.i item item c.item.ensures))) c.loop-i.invariant.makes.edits)

pub loop-i-preserved : goal.loop-i-preserved
loop-i-preserved c =
    let i = c.loop-i.invariant in
    let layer = c.args.layer.now in
    let item = change_of c.item.result in
    let target = edited_from (cell_edits c.args.j layer) 0 (values c.args.base.now) in
    let P : List Change → Type 0 = λ xs. Makes (values c.args.base.now) target (values c.loop-i.out) c.loop-i.done (cell_edits c.args.j xs) in
    record {
      makes = c.in_ok-done.ensures.steps (drop (c.loop-i.i + 1) layer) target (subst P (drop_item layer c.loop-i.i item (omega arith) (sym (get_or_from_slice_get layer c.loop-i.i item item c.item.ensures))) i.makes);
      kinds = c.in_ok-done.ensures.kinds ∙ i.kinds;
      within = c.in_ok-done.ensures.within;
    }

pub returns-clause-merged : goal.returns-clause-merged
returns-clause-merged c =
    let i = c.loop-i.invariant in
    let layer = c.args.layer.now in
    let target = edited_from (cell_edits c.args.j layer) 0 (values c.args.base.now) in
    let none : drop c.loop-i.i layer ≡ [] = drop_all c.loop-i.i layer (omega arith) in
    c.in_ok-extend.ensures.values
    ∙ ap (λ n. values c.loop-i.out ++ take (n - c.loop-i.done) (drop c.loop-i.done (values c.args.base.now))) c.count.ensures
    ∙ made_all (values c.args.base.now) target (values c.loop-i.out) c.loop-i.done (cell_edits c.args.j (drop c.loop-i.i layer)) i.within (ap (λ (xs : List Change). cell_edits c.args.j xs) none) i.makes
