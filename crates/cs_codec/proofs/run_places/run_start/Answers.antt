use Rattle.std.proofs.Common.{◌<◌, ◌≤◌, ◌-◌, length, arith}
use Rattle.cs_codec.specs.Columns.{cells_at}
use Rattle.cs_codec.proofs.EntryPainting.{cells_count}
use Rattle.cs_codec.proofs.RunColumns.{cell_at}
use Rattle.cs_codec.proofs.RunPositions.{GoesTo, GoesPast, opens_next, part_within}
use Rattle.cs_codec.proofs.run_places.run_start.Goals as goal

pub returns : goal.returns
returns g c =
    let bytes = g.C.Cell.bytes in
    let eq = g.C.PartialEq.eq in
    let cells = g.L.Column.cells c.args.column.now in
    let xs = cells_at cells c.args.places.now in
    let count = cells_count cells c.args.places.now c.requires.within in
    let before = c.args.from - 1 in
    let start = c.run_end.result in
    let some : 1 ≤ c.args.from = omega (arith, c.if-from-eq0.false) in
    let inside : before < length xs = omega (arith, count, some, c.requires.order.0, c.requires.order.1, c.if-from-to.false) in
    let found = cell_at xs before inside in
    let ends = c.run_end.ensures.end found.cell found.is in
    let past : GoesPast bytes eq xs before start found.cell = record { at = found.is; end_within = omega (arith, ends) } in
    let exact : start < c.args.to → GoesTo bytes eq xs before start found.cell = λ l. record { at = found.is; end_is = omega (arith, ends, l) } in
    record {
      within = (omega (arith, c.run_end.ensures.within.0, some), c.run_end.ensures.within.1);
      opens = λ l x e. opens_next bytes eq xs before start found.cell (exact l) x e;
      none = λ m low high. part_within bytes eq xs before start found.cell past m (omega (arith, low, some)) high;
    }
