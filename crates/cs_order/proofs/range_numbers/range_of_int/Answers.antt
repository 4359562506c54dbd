use Rattle.std.proofs.Common.{◌<◌, length, map, ap, sym, ◌∙◌, arith}
use Rattle.std.specs.Option.{option_cmp, option_map}
use Rattle.std.specs.Prelude.{Some, pos}
use Rattle.std.proofs.lemmas.List.{length-map}
use Rattle.std.proofs.lemmas.Option.{slice_get-get_or, slice_get-map}
use Rattle.cs_schema.specs.declared.cells.Value.{Value}
use Rattle.cs_schema.specs.Values.{value_cmp}
use Rattle.cs_schema.proofs.RangeLemmas.{cut_counts, cut_passed}
use Rattle.cs_order.proofs.range_numbers.range_of_int.Goals as goal
use Rattle.cs_order.proofs.range_numbers.range_of_int.Goals.{then-is_le, else-is_le}

pub loop-at-preserved : goal.loop-at-preserved
loop-at-preserved c =
    let list = c.args.cuts.now in
    let cuts = map Value.Int list in
    let at = c.loop-at.at in
    let there = Value.Int c.args.int.now in
    let compared = c.cmp.ensures ∙ ap (λ o. option_cmp value_cmp o (Some there)) (sym (slice_get-map Value.Int list at ∙ ap (option_map Value.Int) (slice_get-get_or list at (pos 0) c.loop-at-test.true))) in
    let inside : at < length cuts = omega (arith, c.loop-at-test.true, length-map list Value.Int) in
    elim c.if-is_le.branch [
      | then-is_le w ↦
          let more = cut_counts cuts at there c.cmp.result inside compared (sym c.is_le.ensures ∙ w.if-is_le.true) in
          (omega (arith, w.range-is, more, c.loop-at.invariant.0), omega (arith, w.range-is, c.loop-at.invariant.1))
      | else-is_le w ↦
          let more = cut_passed cuts at there c.cmp.result inside compared (sym c.is_le.ensures ∙ w.if-is_le.false) in
          (omega (arith, w.range-is, more, c.loop-at.invariant.0), omega (arith, w.range-is, c.loop-at.invariant.1))
    ]
