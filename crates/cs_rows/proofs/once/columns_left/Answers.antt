use Rattle.std.proofs.Common.{◌≡◌, ◌+◌, ◌++◌, map, length, ap, ◌∙◌, arith, length-append}
use Rattle.cs_schema.specs.CatalogData.{column}
use Rattle.cs_schema.specs.Rows.{Row, cell}
use Rattle.cs_schema.specs.Values.{values, kind_of}
use Rattle.cs_rows.specs.Repeats.{unmarked}
use Rattle.cs_rows.proofs.AppendLemmas.{each_more}
use Rattle.cs_rows.proofs.KeptCells.{unmarked_map}
use Rattle.cs_rows.proofs.once.columns_left.Goals as goal

pub loop-c-preserved : goal.loop-c-preserved
loop-c-preserved c =
    let C = c.args.catalog.now in
    let marks = c.args.marks.now in
    let rows = c.args.walked.now.rows in
    let more = c.in_ok-push.ensures.items in
    record {
      count = ap length more ∙ length-append c.loop-c.columns.items _ ∙ ap (λ n. n + 1) c.loop-c.invariant.count;
      kinds = each_more (λ k x. kind_of x ≡ (column C k).kind) _ _ _ c.loop-c.c more c.loop-c.invariant.count c.loop-c.invariant.kinds (c.push_unmarked.ensures.kind ∙ c.new-left.ensures.kind ∙ c.kind.ensures);
      cells = each_more (λ k x. values x ≡ unmarked marks (map (λ (row : Row). cell row k) rows)) _ _ _ c.loop-c.c more c.loop-c.invariant.count c.loop-c.invariant.cells
          (c.in_ok-push_unmarked.ensures.cells ∙ (λ i. c.new-left.ensures.cells i ++ unmarked marks (c.column.ensures.cells i)));
    }

pub returns-clause-rows : goal.returns-clause-rows
returns-clause-rows c k d h =
    c.loop-c.invariant.cells k d (omega (arith, h)) ∙ unmarked_map (λ (row : Row). cell row k) c.args.marks.now c.args.walked.now.rows
