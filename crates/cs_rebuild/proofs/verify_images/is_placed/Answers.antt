use Rattle.std.proofs.Common.{List, map, sym, ap, ◌∙◌}
use lib.Pointwise.{pointwise}
use Rattle.cs_schema.specs.declared.cells.Value.{Value}
use Rattle.cs_schema.specs.CatalogData.{CatalogData}
use Rattle.cs_schema.specs.Rows.{project}
use Rattle.cs_segment.specs.SegmentData.{kinds_at}
use Rattle.cs_schema.specs.Values.{value_eq}
use Rattle.cs_schema.specs.Order.{rows_of}
use Rattle.cs_delta.specs.Image.{image_rows}
use Rattle.cs_rows.specs.Survivors.{contents_of, held}
use Rattle.cs_order.specs.Orders.{row_at}
use Rattle.cs_order.specs.Tables.{table_of}
use Rattle.cs_recovery.proofs.Exact.{rows_decide}
use Rattle.cs_rebuild.proofs.Numbers.{decided}
use Rattle.cs_rebuild.proofs.verify_images.is_placed.Goals as goal

pub has_rows-requires-clause-kinds : goal.has_rows-requires-clause-kinds
has_rows-requires-clause-kinds g c = c.in-Some.ensures.kinds ∙ ap (λ (D : CatalogData). kinds_at D c.args.p) c.args.store.now.same

pub returns : goal.returns
returns g c =
    let C = c.args.store.now.catalog.now in
    let p = c.args.p in
    let rows = c.args.store.now.walked.rows in
    let X : List (List Value) = image_rows ((contents_of c.args.store.now.survivors.now).image p c.args.s) in
    let Y : List (List Value) = map (project C p) (rows_of C (table_of C rows) p c.args.s) in
    let image = ap (λ o. image_rows (held o)) c.in-Some.ensures.image in
    let kept = ap (λ l. map (project C p) (map (row_at rows) l)) c.segment-numbers.ensures ∙ ap (map (project C p)) (c.args.store.now.each p c.args.s c.requires.0.0) in
    decided c.has_rows.result (pointwise (pointwise value_eq) X Y) (λ t. (rows_decide X Y).1 (image ∙ c.has_rows.ensures.0 t ∙ kept)) (λ t. c.has_rows.ensures.1 (sym image ∙ (rows_decide X Y).0 t ∙ sym kept))
