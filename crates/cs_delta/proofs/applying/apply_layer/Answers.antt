use Rattle.std.proofs.Common.{◌≡◌, ◌<◌, ℕ, [], get_or, map, length, ap, sym, subst, ◌∙◌, arith}
use Rattle.std.proofs.lemmas.List.{get_or-map, length-drop, length-map, map_push}
use Rattle.cs_schema.specs.declared.kinds.Kind.{Kind}
use Rattle.cs_schema.specs.Values.{values, kind_of}
use Rattle.cs_delta.proofs.Lefts.{one_less, one_there}
use Rattle.cs_delta.specs.Edits.{AreEdits}
use Rattle.cs_delta.specs.ItemView.{cell_edits, HasKind}
use Rattle.cs_delta.proofs.PairColumns.{columns_more, kinds_more}
use Rattle.cs_delta.proofs.applying.apply_layer.Goals as goal

pub remove-column-requires : goal.remove-column-requires
remove-column-requires c = omega (arith, ap length c.loop-j.invariant.left, length-drop c.loop-j.j c.args.columns.items, c.loop-j-test.true, c.len-j-end.ensures, c.args.columns.ok.0, c.loop-j.columns.ok.0)

pub merge_column-requires-clause-fits : goal.merge_column-requires-clause-fits
merge_column-requires-clause-fits c = λ item m.
    let columns = c.args.columns.items in
    let at = c.remove-column.result in
    let low : c.loop-j.j < length columns = omega (arith, c.loop-j-test.true, c.len-j-end.ensures, c.args.columns.ok.0) in
    let is = one_there columns c.loop-j.columns.items c.loop-j.j at c.loop-j.invariant.left c.remove-column.ensures.value in
    let P : Kind → Type 0 = λ k. HasKind k c.loop-j.j item in
    let here : c.loop-j.j < length (map kind_of columns) = omega (arith, length-map columns kind_of) in
    subst P (get_or-map kind_of columns c.loop-j.j at Kind.Int low ∙ ap kind_of (sym is)) (c.requires.layer.kinds_are c.loop-j.j here item m)

pub merge_column-requires-clause-edits : goal.merge_column-requires-clause-edits
merge_column-requires-clause-edits c =
    let columns = c.args.columns.items in
    let at = c.remove-column.result in
    let low : c.loop-j.j < length columns = omega (arith, c.loop-j-test.true, c.len-j-end.ensures, c.args.columns.ok.0) in
    let is = one_there columns c.loop-j.columns.items c.loop-j.j at c.loop-j.invariant.left c.remove-column.ensures.value in
    let lens : length (values (get_or columns c.loop-j.j at)) ≡ length c.args.keys.now = ap length (sym (get_or-map values columns c.loop-j.j at [] low)) ∙ c.requires.lengths c.loop-j.j (omega (arith, length-map columns values)) in
    let P : ℕ → Type 0 = λ n. AreEdits n 0 (cell_edits c.loop-j.j c.args.layer.now) in
    let here : c.loop-j.j < length (map kind_of columns) = omega (arith, length-map columns kind_of) in
    subst P (sym (ap (λ x. length (values x)) is ∙ lens)) (c.requires.layer.cells c.loop-j.j here)

pub loop-j-preserved : goal.loop-j-preserved
loop-j-preserved c =
    let i = c.loop-j.invariant in
    let columns = c.args.columns.items in
    let at = c.remove-column.result in
    let low : c.loop-j.j < length columns = omega (arith, c.loop-j-test.true, c.len-j-end.ensures, c.args.columns.ok.0) in
    let is = one_there columns c.loop-j.columns.items c.loop-j.j at c.loop-j.invariant.left c.remove-column.ensures.value in
    let new = c.in_ok-merge_column.field-0 in
    rw (c.in_ok-push.ensures.items, map_push values c.loop-j.merged.items new, map_push kind_of c.loop-j.merged.items new) (record {
      left = c.remove-column.ensures.items ∙ one_less c.loop-j.j c.loop-j.columns.items columns i.left;
      columns_are = columns_more values c.args.layer.now columns c.loop-j.j at (map values c.loop-j.merged.items) (values new) low is i.columns_are c.in_ok-merge_column.ensures.merged;
      kinds = kinds_more kind_of columns c.loop-j.j at (map kind_of c.loop-j.merged.items) (kind_of new) low is i.kinds c.in_ok-merge_column.ensures.kind;
    })
