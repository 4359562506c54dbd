use Rattle.std.proofs.Common.{◌≡◌, ◌<◌, length, ap, sym, ◌∙◌, arith}
use Rattle.std.specs.Option.{option_cmp}
use Rattle.std.specs.Prelude.{Some, pos, slice_get}
use Rattle.std.proofs.lemmas.Option.{slice_get-get_or}
use Rattle.cs_schema.specs.declared.cells.Value.{Value}
use Rattle.cs_schema.specs.Values.{values, value_cmp}
use Rattle.cs_schema.specs.Rows.{cell}
use Rattle.cs_schema.proofs.RangeLemmas.{cut_counts, cut_passed}
use Rattle.cs_schema.proofs.catalog.Catalog.segment_of_cell.Goals as goal
use Rattle.cs_schema.proofs.catalog.Catalog.segment_of_cell.Goals.{then-is_le, else-is_le}

pub loop-at-preserved : goal.loop-at-preserved
loop-at-preserved c =
    let cuts = values c.behind-self.inside.cuts in
    let there = cell (values c.args.cells.now) c.args.row in
    let compared : c.compare_cell.result ≡ option_cmp value_cmp (slice_get cuts c.loop-at.at) (Some there) =
    c.compare_cell.ensures ∙ ap (option_cmp value_cmp (slice_get cuts c.loop-at.at)) (slice_get-get_or (values c.args.cells.now) c.args.row (Value.Int (pos 0)) c.requires.there) in
    let inside : c.loop-at.at < length cuts = omega (arith, c.loop-at-test.true, c.len-at-end.ensures) in
    elim c.if-is_le.branch [
      | then-is_le w ↦
          let more = cut_counts cuts c.loop-at.at there c.compare_cell.result inside compared (sym c.is_le.ensures ∙ w.if-is_le.true) in
          (omega (arith, w.segment-is, more, c.loop-at.invariant.0), omega (arith, w.segment-is, c.loop-at.invariant.1))
      | else-is_le w ↦
          let more = cut_passed cuts c.loop-at.at there c.compare_cell.result inside compared (sym c.is_le.ensures ∙ w.if-is_le.false) in
          (omega (arith, w.segment-is, more, c.loop-at.invariant.0), omega (arith, w.segment-is, c.loop-at.invariant.1))
    ]
