use Rattle.std.proofs.Common.{◌≡◌, ◌<◌, length, true, false, Some, sym, ap, ◌∙◌, arith}
use Rattle.std.specs.Prelude.{slice_get, slice_index}
use Rattle.cs_codec.specs.Columns.{cells_at}
use Rattle.cs_codec.proofs.EntryPainting.{cells_count}
use Rattle.cs_codec.proofs.RunColumns.{cell_at}
use Rattle.cs_codec.proofs.RunPlaces.{cell_placed, run_longer, run_over}
use Rattle.cs_codec.proofs.run_places.run_end.Goals as goal

pub loop-end-preserved : goal.loop-end-preserved
loop-end-preserved g c =
    let cells = g.L.Column.cells c.args.column.now in
    let places = c.args.places.now in
    let xs = cells_at cells places in
    let end = c.loop-end.end in
    let inside : end < length places = omega (arith, c.loop-end-test.true, c.requires.order.1) in
    let first : c.args.start < length places = omega (arith, c.requires.order.0, c.requires.order.1) in
    record {
      within = (omega (arith, c.loop-end.invariant.within.0), omega (arith, c.loop-end-test.true));
      run = λ x e.
          let here : slice_get xs end ≡ Some x = cell_placed cells places end c.requires.within inside ∙ sym (c.same.ensures.0 c.if-same.true) ∙ sym (cell_placed cells places c.args.start c.requires.within first) ∙ e in
          c.loop-end.invariant.run x e ∙ run_longer g.C.PartialEq.eq (record { itself = g.met.C.Eq.laws.refl; exact = g.met.C.Cell.exact }) xs x end here;
    }

pub returns-else-same-clause-end : goal.returns-else-same-clause-end
returns-else-same-clause-end g c x e =
    let cells = g.L.Column.cells c.args.column.now in
    let places = c.args.places.now in
    let xs = cells_at cells places in
    let end = c.loop-end.end in
    let inside : end < length places = omega (arith, c.loop-end-test.true, c.requires.order.1) in
    let first : c.args.start < length places = omega (arith, c.requires.order.0, c.requires.order.1) in
    let count = cells_count cells places c.requires.within in
    let next = cell_at xs end (omega (arith, inside, count)) in
    let over = run_over g.C.PartialEq.eq (record { itself = g.met.C.Eq.laws.refl; exact = g.met.C.Cell.exact }) xs x next.cell end next.is (λ same.
    let both : slice_get cells (slice_index places c.args.start) ≡ slice_get cells (slice_index places end) =
    sym (cell_placed cells places c.args.start c.requires.within first) ∙ e ∙ ap Some same ∙ sym next.is ∙ cell_placed cells places end c.requires.within inside in
    let clash : true ≡ false = sym (c.same.ensures.1 both) ∙ c.if-same.false in absurd cc) in
    omega (arith, c.loop-end.invariant.run x e, over, c.loop-end-test.true)

pub returns-after-loop-end-clause-end : goal.returns-after-loop-end-clause-end
returns-after-loop-end-clause-end g c x e = omega (arith, c.loop-end.invariant.run x e, c.loop-end.invariant.within.1, c.loop-end-test.false)
