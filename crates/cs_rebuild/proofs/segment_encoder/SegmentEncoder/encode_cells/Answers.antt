use Rattle.std.proofs.Common.{◌≡◌, sym, ap, ◌∙◌, subst}
use Rattle.std.specs.Prelude.{IfOk}
use Rattle.cs_schema.specs.CatalogData.{column}
use Rattle.cs_schema.specs.Values.{values, kind_of}
use Rattle.cs_codec.specs.Columns.{cells_at}
use Rattle.cs_piece.specs.Columns.{CanEncode}
use Rattle.cs_piece.specs.Pieces.{IsPieceOf}
use Rattle.cs_rebuild.specs.SegmentEncoder.{code_in, kind_in, values_in}
use Rattle.cs_rebuild.proofs.Encodings.{can_encode, kind_of_column, placed_values}
use Rattle.cs_rebuild.proofs.segment_encoder.SegmentEncoder.encode_cells.Goals as goal

pub encode_places-requires-clause-fits : goal.encode_places-requires-clause-fits
encode_places-requires-clause-fits c =
    let e = c.args.self.now in
    let C = e.store.now.catalog.now in
    let j = c.args.j in
    let ns = c.args.numbers.now in
    let col = c.column-column.result.now in
    let kind : kind_of col ≡ kind_in e j = kind_of_column C e.store.now.walked.kinds c.table_column.result (kind_of col) e.store.now.kinds c.table_column.ensures.exists c.column-column.ensures.kind ∙ ap (λ m. (column C m).kind) c.table_column.ensures.number in
    let held : cells_at (values col) ns ≡ values_in e j ns = placed_values e j ns c.table_column.result (values col) c.table_column.ensures.number c.column-column.ensures.cells c.requires.rows in
    subst (λ x. CanEncode x (kind_of col) (cells_at (values col) ns)) (sym c.code.ensures) (subst (λ x. CanEncode (code_in e j) x (cells_at (values col) ns)) (sym kind) (subst (CanEncode (code_in e j) (kind_in e j)) (sym held) (can_encode e j ns c.requires.rows)))

pub returns : goal.returns
returns c =
    let e = c.args.self.now in
    let C = e.store.now.catalog.now in
    let j = c.args.j in
    let ns = c.args.numbers.now in
    let col = c.column-column.result.now in
    let kind : kind_of col ≡ kind_in e j = kind_of_column C e.store.now.walked.kinds c.table_column.result (kind_of col) e.store.now.kinds c.table_column.ensures.exists c.column-column.ensures.kind ∙ ap (λ m. (column C m).kind) c.table_column.ensures.number in
    let held : cells_at (values col) ns ≡ values_in e j ns = placed_values e j ns c.table_column.result (values col) c.table_column.ensures.number c.column-column.ensures.cells c.requires.rows in
    subst (λ x. IfOk c.encode_places.result (λ piece. IsPieceOf piece x (kind_in e j) (values_in e j ns))) c.code.ensures
    (subst (λ x. IfOk c.encode_places.result (λ piece. IsPieceOf piece c.code.result x (values_in e j ns))) kind
    (subst (λ x. IfOk c.encode_places.result (λ piece. IsPieceOf piece c.code.result (kind_of col) x)) held c.encode_places.ensures))
