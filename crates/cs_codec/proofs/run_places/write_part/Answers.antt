use Rattle.std.proofs.Common.{◌≡◌, ◌+◌, ◌-◌, ◌<◌, ℕ, List, ◌++◌, Some, drop, length, length-drop, sym, ap, ◌∙◌, append_assoc, arith}
use Rattle.std.specs.Prelude.{slice_get, slice_index}
use Rattle.std.proofs.lemmas.List.{append-nil}
use Rattle.cs_codec.specs.Cells.{number}
use Rattle.cs_codec.specs.Columns.{cells_at}
use Rattle.cs_codec.specs.RunParts.{part_text, parts_follow}
use Rattle.cs_codec.proofs.EntryPainting.{cells_count}
use Rattle.cs_codec.proofs.RunColumns.{cell_at}
use Rattle.cs_codec.proofs.RunPositions.{GoesTo, opens_next, part_run, part_within, past_end}
use Rattle.cs_codec.proofs.RunPlaces.{cell_placed, kept_few}
use Rattle.cs_codec.proofs.run_places.write_part.Goals as goal

pub loop-at-init : goal.loop-at-init
loop-at-init g c =
    let start = c.run_start-at.ensures in
    record {
      within = (start.within.0, omega (arith, start.within.1, c.requires.order.1));
      opens = start.opens;
      over = λ l. start.none c.args.to c.requires.order.0 l;
      text = c.in_ok-out.ensures.items ∙ sym (start.none c.args.from (omega arith) start.within.0);
    }

pub loop-at-preserved : goal.loop-at-preserved
loop-at-preserved g c =
    let bytes = g.C.Cell.bytes in
    let eq = g.C.PartialEq.eq in
    let cells = g.L.Column.cells c.args.column.now in
    let places = c.args.places.now in
    let xs = cells_at cells places in
    let at = c.loop-at.at in
    let end = c.run_end-end.result in
    let inside : at < length places = omega (arith, c.loop-at-test.true, c.requires.order.1) in
    let found = cell_at xs at (omega (arith, inside, cells_count cells places c.requires.within)) in
    let x = found.cell in
    let rest = drop (at + 1) xs in
    let long : length xs ≡ length places = cells_count cells places c.requires.within in
    let run : GoesTo bytes eq xs at end x = record { at = found.is; end_is = omega (arith, c.run_end-end.ensures.end x found.is, kept_few eq x rest, length-drop (at + 1) xs, long, inside) } in
    let placed : slice_get cells (slice_index places at) ≡ Some x = sym (cell_placed cells places at c.requires.within inside) ∙ found.is in
    let regroup : (o b n m : List ℕ) → ((o ++ b) ++ n) ++ m ≡ o ++ (b ++ n ++ m) = λ o b n m. simp append_assoc in
    record {
      within = (omega (arith, c.loop-at.invariant.within.0, c.run_end-end.ensures.within.0), c.run_end-end.ensures.within.1);
      opens = λ _ y e. opens_next bytes eq xs at end x run y e;
      over = λ l. part_within bytes eq xs at end x (past_end bytes eq xs at end x run) c.args.to c.loop-at-test.true l;
      text = c.in_ok-write_number-2.ensures.ok
          ∙ ap (λ (w : List ℕ). w ++ number (end - at)) (c.in_ok-write_number.ensures.ok ∙ ap (λ (w : List ℕ). w ++ number (at + 1)) (c.in_ok-write.ensures x placed))
          ∙ regroup c.loop-at.out.items (bytes x) (number (at + 1)) (number (end - at))
          ∙ ap (λ (w : List ℕ). w ++ (bytes x ++ number (at + 1) ++ number (end - at))) c.loop-at.invariant.text
          ∙ ap (λ (w : List ℕ). part_text bytes eq xs c.args.from at ++ w) (sym (part_run bytes eq xs at end x run (c.loop-at.invariant.opens c.loop-at-test.true x found.is)))
          ∙ parts_follow bytes eq xs c.args.from at end c.loop-at.invariant.within.0 (omega (arith, c.run_end-end.ensures.within.0));
    }

pub returns : goal.returns
returns g c =
    let bytes = g.C.Cell.bytes in
    let eq = g.C.PartialEq.eq in
    let xs = cells_at (g.L.Column.cells c.args.column.now) c.args.places.now in
    c.loop-at.invariant.text
    ∙ sym (parts_follow bytes eq xs c.args.from c.args.to c.loop-at.at c.requires.order.0 c.loop-at-test.false)
    ∙ ap (λ (w : List ℕ). part_text bytes eq xs c.args.from c.args.to ++ w) (c.loop-at.invariant.over c.loop-at-test.false)
    ∙ append-nil (part_text bytes eq xs c.args.from c.args.to)
