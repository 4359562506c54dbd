use Rattle.std.proofs.Common.{◌∙◌, ap, length, subst}
use Rattle.std.specs.List.Sorted.{IsPermutation}
use Rattle.std.specs.Prelude.{slice_index, ◌==◌}
use Rattle.std.specs.List.{filter}
use Rattle.std.proofs.lemmas.List.{length-map}
use Rattle.cs_schema.specs.CatalogData.{projection}
use Rattle.cs_schema.specs.Rows.{cell, segment_of_row}
use Rattle.cs_recovery.specs.Columns.{rows_in}
use Rattle.cs_tables.specs.Cutting.{cut_of}
use Rattle.cs_tables.proofs.cutting.full_range.Goals as goal

pub returns : goal.returns
returns c =
    let C = c.args.catalog.now in
    let rows = filter (λ row. segment_of_row C c.args.p row == c.args.s) (rows_in c.args.rows.now) in
    let sorted = c.sort.new.self.items in
    record {
      refused = c.requires.refused;
      count = ap length (c.as_slice-count.ensures.value ∙ c.in_ok-values.ensures) ∙ length-map rows (λ row. cell row (slice_index (projection C c.args.p).sort 0));
      cut = (sorted, subst (λ found. IsPermutation found sorted) c.in_ok-values.ensures c.sort.ensures.permutation, c.in_ok-sort.ensures.sorted, c.cut_of.ensures ∙ ap cut_of c.as_slice.ensures.value);
    }
