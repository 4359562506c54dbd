use Rattle.std.proofs.Common.{arith, ◌≡◌, ◌∙◌, sym, ap, subst, [], map}
use Rattle.std.specs.Prelude.{nat_eq}
use Rattle.std.specs.Ordering.{nat_cmp, int_eq, int_cmp}
use Rattle.std.specs.Cmp.Lexicographic.{pointwise, slice_cmp}
use Rattle.std.proofs.lemmas.Result.{err_from_is_err_and}
use Rattle.cs_schema.specs.declared.kinds.Code.{Code}
use Rattle.cs_schema.specs.declared.kinds.Kind.{Kind}
use Rattle.cs_schema.specs.declared.cells.Value.{Value}
use Rattle.cs_schema.specs.declared.cells.Cells.{Cells}
use Rattle.cs_schema.specs.Values.{values, kind_of}
use Rattle.cs_codec.specs.Cells.{int_cell, text_cell, IsInt, IsText}
use Rattle.cs_codec.specs.Encodings.{IsShort}
use Rattle.cs_codec.specs.Texts.{plain_text, runs_text, differences_text, bitmaps_text}
use Rattle.cs_codec.specs.Differences.{NeverFallsShort}
use Rattle.cs_piece.specs.Columns.{IsColumnOf}
use Rattle.cs_piece.proofs.Variants.{int_runs, text_runs, int_bitmaps, text_bitmaps, rising_ints, plain_ints, plain_texts, column_found, column_missing, no_texts_found}
use Rattle.cs_piece.proofs.columns.read_column.Goals as goal
use Rattle.cs_piece.proofs.columns.read_column.Goals.{in-Runs-Int+in_ok-read-in-Runs-Int, in-Runs-Text+in_ok-read-in-Runs-Text, in-Bitmaps-Int+in_ok-read-in-Bitmaps-Int, in-Bitmaps-Text+in_ok-read-in-Bitmaps-Text, in-Differences-Int+in_ok-read-in-Differences-Int, in-Plain-Int+in_ok-read-in-Plain-Int, in-Plain-Text+in_ok-read-in-Plain-Text, in-Differences-Text+else-rows-ne0+else-bytes-ne0}

pub returns-in_err-read-in-Runs-Int-clause-not_a_text : goal.returns-in_err-read-in-Runs-Int-clause-not_a_text
returns-in_err-read-in-Runs-Int-clause-not_a_text c =
    let p = err_from_is_err_and c.from_residual.result c.from_residual.ensures.1 in
    let a = p.1 in let b = p.2 in
    λ said v h.
    column_missing Value.Int (runs_text int_cell int_eq) IsShort IsInt Code.Runs Kind.Int int_runs c.args.bytes.now c.args.rows (c.in_err-read-in-Runs-Int.ensures.not_a_text (cc)) v (subst (λ (z : Code). IsColumnOf z Kind.Int c.args.bytes.now c.args.rows v) c.in-Runs-Int.is-0 (subst (λ (z : Kind). IsColumnOf c.args.code z c.args.bytes.now c.args.rows v) c.in-Runs-Int.is-1 h))

pub returns-in_err-read-in-Runs-Text-clause-not_a_text : goal.returns-in_err-read-in-Runs-Text-clause-not_a_text
returns-in_err-read-in-Runs-Text-clause-not_a_text c =
    let p = err_from_is_err_and c.from_residual-in_err-read-in-Runs-Text.result c.from_residual-in_err-read-in-Runs-Text.ensures.1 in
    let a = p.1 in let b = p.2 in
    λ said v h.
    column_missing Value.Text (runs_text text_cell (pointwise nat_eq)) IsShort IsText Code.Runs Kind.Text text_runs c.args.bytes.now c.args.rows (c.in_err-read-in-Runs-Text.ensures.not_a_text (cc)) v (subst (λ (z : Code). IsColumnOf z Kind.Text c.args.bytes.now c.args.rows v) c.in-Runs-Text.is-0 (subst (λ (z : Kind). IsColumnOf c.args.code z c.args.bytes.now c.args.rows v) c.in-Runs-Text.is-1 h))

pub returns-in_err-read-in-Bitmaps-Int-clause-not_a_text : goal.returns-in_err-read-in-Bitmaps-Int-clause-not_a_text
returns-in_err-read-in-Bitmaps-Int-clause-not_a_text c =
    let p = err_from_is_err_and c.from_residual-in_err-read-in-Bitmaps-Int.result c.from_residual-in_err-read-in-Bitmaps-Int.ensures.1 in
    let a = p.1 in let b = p.2 in
    λ said v h.
    column_missing Value.Int (bitmaps_text int_cell int_eq int_cmp) IsShort IsInt Code.Bitmaps Kind.Int int_bitmaps c.args.bytes.now c.args.rows (c.in_err-read-in-Bitmaps-Int.ensures.not_a_text (cc)) v (subst (λ (z : Code). IsColumnOf z Kind.Int c.args.bytes.now c.args.rows v) c.in-Bitmaps-Int.is-0 (subst (λ (z : Kind). IsColumnOf c.args.code z c.args.bytes.now c.args.rows v) c.in-Bitmaps-Int.is-1 h))

pub returns-in_err-read-in-Bitmaps-Text-clause-not_a_text : goal.returns-in_err-read-in-Bitmaps-Text-clause-not_a_text
returns-in_err-read-in-Bitmaps-Text-clause-not_a_text c =
    let p = err_from_is_err_and c.from_residual-in_err-read-in-Bitmaps-Text.result c.from_residual-in_err-read-in-Bitmaps-Text.ensures.1 in
    let a = p.1 in let b = p.2 in
    λ said v h.
    column_missing Value.Text (bitmaps_text text_cell (pointwise nat_eq) (slice_cmp nat_cmp)) IsShort IsText Code.Bitmaps Kind.Text text_bitmaps c.args.bytes.now c.args.rows (c.in_err-read-in-Bitmaps-Text.ensures.not_a_text (cc)) v (subst (λ (z : Code). IsColumnOf z Kind.Text c.args.bytes.now c.args.rows v) c.in-Bitmaps-Text.is-0 (subst (λ (z : Kind). IsColumnOf c.args.code z c.args.bytes.now c.args.rows v) c.in-Bitmaps-Text.is-1 h))

pub returns-in_err-read-in-Differences-Int-clause-not_a_text : goal.returns-in_err-read-in-Differences-Int-clause-not_a_text
returns-in_err-read-in-Differences-Int-clause-not_a_text c =
    let p = err_from_is_err_and c.from_residual-in_err-read-in-Differences-Int.result c.from_residual-in_err-read-in-Differences-Int.ensures.1 in
    let a = p.1 in let b = p.2 in
    λ said v h.
    column_missing Value.Int differences_text NeverFallsShort IsInt Code.Differences Kind.Int rising_ints c.args.bytes.now c.args.rows (c.in_err-read-in-Differences-Int.ensures.not_a_text (cc)) v (subst (λ (z : Code). IsColumnOf z Kind.Int c.args.bytes.now c.args.rows v) c.in-Differences-Int.is-0 (subst (λ (z : Kind). IsColumnOf c.args.code z c.args.bytes.now c.args.rows v) c.in-Differences-Int.is-1 h))

pub returns-in_err-read-in-Plain-Int-clause-not_a_text : goal.returns-in_err-read-in-Plain-Int-clause-not_a_text
returns-in_err-read-in-Plain-Int-clause-not_a_text c =
    let p = err_from_is_err_and c.from_residual-in_err-read-in-Plain-Int.result c.from_residual-in_err-read-in-Plain-Int.ensures.1 in
    let a = p.1 in let b = p.2 in
    λ said v h.
    column_missing Value.Int (plain_text int_cell) IsShort IsInt Code.Plain Kind.Int plain_ints c.args.bytes.now c.args.rows (c.in_err-read-in-Plain-Int.ensures.not_a_text (cc)) v (subst (λ (z : Code). IsColumnOf z Kind.Int c.args.bytes.now c.args.rows v) c.in-Plain-Int.is-0 (subst (λ (z : Kind). IsColumnOf c.args.code z c.args.bytes.now c.args.rows v) c.in-Plain-Int.is-1 h))

pub returns-in_err-read-in-Plain-Text-clause-not_a_text : goal.returns-in_err-read-in-Plain-Text-clause-not_a_text
returns-in_err-read-in-Plain-Text-clause-not_a_text c =
    let p = err_from_is_err_and c.from_residual-in_err-read-in-Plain-Text.result c.from_residual-in_err-read-in-Plain-Text.ensures.1 in
    let a = p.1 in let b = p.2 in
    λ said v h.
    column_missing Value.Text (plain_text text_cell) IsShort IsText Code.Plain Kind.Text plain_texts c.args.bytes.now c.args.rows (c.in_err-read-in-Plain-Text.ensures.not_a_text (cc)) v (subst (λ (z : Code). IsColumnOf z Kind.Text c.args.bytes.now c.args.rows v) c.in-Plain-Text.is-0 (subst (λ (z : Kind). IsColumnOf c.args.code z c.args.bytes.now c.args.rows v) c.in-Plain-Text.is-1 h))

pub returns-clause-found : goal.returns-clause-found
returns-clause-found c = elim c.match-code.branch [
  | in-Runs-Int+in_ok-read-in-Runs-Int w ↦
      let found = column_found Value.Int (runs_text int_cell int_eq) IsShort IsInt Code.Runs Kind.Int int_runs c.args.bytes.now c.args.rows w.in_ok-read-in-Runs-Int.field-0.items w.in_ok-read-in-Runs-Int.ensures.found in
      let here = subst (λ (z : Code). IsColumnOf z c.args.kind c.args.bytes.now c.args.rows (values (Cells.Ints w.in_ok-read-in-Runs-Int.field-0))) (sym w.in-Runs-Int.is-0) (subst (λ (z : Kind). IsColumnOf Code.Runs z c.args.bytes.now c.args.rows (values (Cells.Ints w.in_ok-read-in-Runs-Int.field-0))) (sym w.in-Runs-Int.is-1) found) in
      subst (λ (z : Cells). IsColumnOf c.args.code c.args.kind c.args.bytes.now c.args.rows (values z)) (sym w.result-is) here
  | in-Runs-Text+in_ok-read-in-Runs-Text w ↦
      let found = column_found Value.Text (runs_text text_cell (pointwise nat_eq)) IsShort IsText Code.Runs Kind.Text text_runs c.args.bytes.now c.args.rows w.in_ok-read-in-Runs-Text.field-0 w.in_ok-read-in-Runs-Text.ensures.found in
      let here = subst (λ (z : Code). IsColumnOf z c.args.kind c.args.bytes.now c.args.rows (values (Cells.Texts w.in_ok-read-in-Runs-Text.field-0))) (sym w.in-Runs-Text.is-0) (subst (λ (z : Kind). IsColumnOf Code.Runs z c.args.bytes.now c.args.rows (values (Cells.Texts w.in_ok-read-in-Runs-Text.field-0))) (sym w.in-Runs-Text.is-1) found) in
      subst (λ (z : Cells). IsColumnOf c.args.code c.args.kind c.args.bytes.now c.args.rows (values z)) (sym w.result-is) here
  | in-Bitmaps-Int+in_ok-read-in-Bitmaps-Int w ↦
      let found = column_found Value.Int (bitmaps_text int_cell int_eq int_cmp) IsShort IsInt Code.Bitmaps Kind.Int int_bitmaps c.args.bytes.now c.args.rows w.in_ok-read-in-Bitmaps-Int.field-0.items w.in_ok-read-in-Bitmaps-Int.ensures.found in
      let here = subst (λ (z : Code). IsColumnOf z c.args.kind c.args.bytes.now c.args.rows (values (Cells.Ints w.in_ok-read-in-Bitmaps-Int.field-0))) (sym w.in-Bitmaps-Int.is-0) (subst (λ (z : Kind). IsColumnOf Code.Bitmaps z c.args.bytes.now c.args.rows (values (Cells.Ints w.in_ok-read-in-Bitmaps-Int.field-0))) (sym w.in-Bitmaps-Int.is-1) found) in
      subst (λ (z : Cells). IsColumnOf c.args.code c.args.kind c.args.bytes.now c.args.rows (values z)) (sym w.result-is) here
  | in-Bitmaps-Text+in_ok-read-in-Bitmaps-Text w ↦
      let found = column_found Value.Text (bitmaps_text text_cell (pointwise nat_eq) (slice_cmp nat_cmp)) IsShort IsText Code.Bitmaps Kind.Text text_bitmaps c.args.bytes.now c.args.rows w.in_ok-read-in-Bitmaps-Text.field-0 w.in_ok-read-in-Bitmaps-Text.ensures.found in
      let here = subst (λ (z : Code). IsColumnOf z c.args.kind c.args.bytes.now c.args.rows (values (Cells.Texts w.in_ok-read-in-Bitmaps-Text.field-0))) (sym w.in-Bitmaps-Text.is-0) (subst (λ (z : Kind). IsColumnOf Code.Bitmaps z c.args.bytes.now c.args.rows (values (Cells.Texts w.in_ok-read-in-Bitmaps-Text.field-0))) (sym w.in-Bitmaps-Text.is-1) found) in
      subst (λ (z : Cells). IsColumnOf c.args.code c.args.kind c.args.bytes.now c.args.rows (values z)) (sym w.result-is) here
  | in-Differences-Int+in_ok-read-in-Differences-Int w ↦
      let found = column_found Value.Int differences_text NeverFallsShort IsInt Code.Differences Kind.Int rising_ints c.args.bytes.now c.args.rows w.in_ok-read-in-Differences-Int.field-0.items w.in_ok-read-in-Differences-Int.ensures.found in
      let here = subst (λ (z : Code). IsColumnOf z c.args.kind c.args.bytes.now c.args.rows (values (Cells.Ints w.in_ok-read-in-Differences-Int.field-0))) (sym w.in-Differences-Int.is-0) (subst (λ (z : Kind). IsColumnOf Code.Differences z c.args.bytes.now c.args.rows (values (Cells.Ints w.in_ok-read-in-Differences-Int.field-0))) (sym w.in-Differences-Int.is-1) found) in
      subst (λ (z : Cells). IsColumnOf c.args.code c.args.kind c.args.bytes.now c.args.rows (values z)) (sym w.result-is) here
  | in-Plain-Int+in_ok-read-in-Plain-Int w ↦
      let found = column_found Value.Int (plain_text int_cell) IsShort IsInt Code.Plain Kind.Int plain_ints c.args.bytes.now c.args.rows w.in_ok-read-in-Plain-Int.field-0.items w.in_ok-read-in-Plain-Int.ensures.found in
      let here = subst (λ (z : Code). IsColumnOf z c.args.kind c.args.bytes.now c.args.rows (values (Cells.Ints w.in_ok-read-in-Plain-Int.field-0))) (sym w.in-Plain-Int.is-0) (subst (λ (z : Kind). IsColumnOf Code.Plain z c.args.bytes.now c.args.rows (values (Cells.Ints w.in_ok-read-in-Plain-Int.field-0))) (sym w.in-Plain-Int.is-1) found) in
      subst (λ (z : Cells). IsColumnOf c.args.code c.args.kind c.args.bytes.now c.args.rows (values z)) (sym w.result-is) here
  | in-Plain-Text+in_ok-read-in-Plain-Text w ↦
      let found = column_found Value.Text (plain_text text_cell) IsShort IsText Code.Plain Kind.Text plain_texts c.args.bytes.now c.args.rows w.in_ok-read-in-Plain-Text.field-0 w.in_ok-read-in-Plain-Text.ensures.found in
      let here = subst (λ (z : Code). IsColumnOf z c.args.kind c.args.bytes.now c.args.rows (values (Cells.Texts w.in_ok-read-in-Plain-Text.field-0))) (sym w.in-Plain-Text.is-0) (subst (λ (z : Kind). IsColumnOf Code.Plain z c.args.bytes.now c.args.rows (values (Cells.Texts w.in_ok-read-in-Plain-Text.field-0))) (sym w.in-Plain-Text.is-1) found) in
      subst (λ (z : Cells). IsColumnOf c.args.code c.args.kind c.args.bytes.now c.args.rows (values z)) (sym w.result-is) here
  | in-Differences-Text+else-rows-ne0+else-bytes-ne0 w ↦
      let none : values c.match-code.result ≡ [] = ap values w.result-is ∙ ap (λ (xs : _). map Value.Text xs) w.new.ensures in
      let found = no_texts_found c.args.bytes.now c.args.rows (values c.match-code.result) (omega arith) (omega arith) none in
      subst (λ (z : Code). IsColumnOf z c.args.kind c.args.bytes.now c.args.rows (values c.match-code.result)) (sym w.in-Differences-Text.is-0) (subst (λ (z : Kind). IsColumnOf Code.Differences z c.args.bytes.now c.args.rows (values c.match-code.result)) (sym w.in-Differences-Text.is-1) found)
]

pub returns-clause-kind : goal.returns-clause-kind
returns-clause-kind c = elim c.match-code.branch [
  | in-Runs-Int+in_ok-read-in-Runs-Int w ↦
      ap kind_of w.result-is ∙ sym w.in-Runs-Int.is-1
  | in-Runs-Text+in_ok-read-in-Runs-Text w ↦
      ap kind_of w.result-is ∙ sym w.in-Runs-Text.is-1
  | in-Bitmaps-Int+in_ok-read-in-Bitmaps-Int w ↦
      ap kind_of w.result-is ∙ sym w.in-Bitmaps-Int.is-1
  | in-Bitmaps-Text+in_ok-read-in-Bitmaps-Text w ↦
      ap kind_of w.result-is ∙ sym w.in-Bitmaps-Text.is-1
  | in-Differences-Int+in_ok-read-in-Differences-Int w ↦
      ap kind_of w.result-is ∙ sym w.in-Differences-Int.is-1
  | in-Plain-Int+in_ok-read-in-Plain-Int w ↦
      ap kind_of w.result-is ∙ sym w.in-Plain-Int.is-1
  | in-Plain-Text+in_ok-read-in-Plain-Text w ↦
      ap kind_of w.result-is ∙ sym w.in-Plain-Text.is-1
  | in-Differences-Text+else-rows-ne0+else-bytes-ne0 w ↦
      ap kind_of w.result-is ∙ sym w.in-Differences-Text.is-1
]
