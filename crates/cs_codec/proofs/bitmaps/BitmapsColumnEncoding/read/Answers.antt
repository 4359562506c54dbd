use Rattle.std.proofs.Common.{arith, ◌∙◌, sym, ap, subst}
use Rattle.cs_codec.specs.Encodings.{IsColumn, IsShort}
use Rattle.cs_codec.specs.Texts.{distinct_values, bitmaps_text}
use Rattle.cs_codec.proofs.EntryPainting.{cells_count, cells_hold}
use Rattle.cs_codec.proofs.bitmaps.BitmapsColumnEncoding.read.Goals as goal

pub returns-then-not-branch-2-clause-not_a_text : goal.returns-then-not-branch-2-clause-not_a_text
returns-then-not-branch-2-clause-not_a_text g c = λ said xs h.
    let only = rw c.in-Some.is at c.in_ok-column.ensures.found in
    let cells = sym (only.only xs h) in
    c.in_ok-has_text.ensures.no c.if-not-branch-2.true
    (only.values_are xs h ∙ ap (λ z. distinct_values g.C.Ord.cmp z) cells)
    (h.text_is ∙ ap (λ z. bitmaps_text g.C.Cell.bytes g.C.PartialEq.eq g.C.Ord.cmp z) cells)

pub returns-clause-found : goal.returns-clause-found
returns-clause-found g c =
    let only = rw c.in-Some.is at c.in_ok-column.ensures.found in
    let values = g.L.Column.cells c.in-Some.column.values in
    let numbers = c.in-Some.column.numbers.items in
    let count = cells_count values numbers only.below in
    let rows = only.rows_are in
    subst (λ z. IsColumn (bitmaps_text g.C.Cell.bytes g.C.PartialEq.eq g.C.Ord.cmp) IsShort g.C.Cell.is_cell c.args.bytes.now c.args.rows z) (sym c.in_ok-cells_of.ensures) (record {
      text_is = c.in_ok-has_text.ensures.yes c.if-not-branch-2.false;
      rows_are = count ∙ rows;
      list_fits = omega (arith, count, rows);
      cells_hold = cells_hold g.C.Cell.is_cell values numbers only.hold;
    })
