use Rattle.std.proofs.Common.{◌≡◌, ◌<◌, ◌+◌, ℕ, map, length, ap, subst, ◌∙◌, arith}
use Rattle.std.proofs.lemmas.List.{length-map, length_push}
use Rattle.cs_schema.specs.Values.{values, kind_of}
use Rattle.cs_schema.specs.CatalogData.{code_at, kind_at}
use Rattle.cs_piece.specs.declared.pieces.Piece.{Piece}
use Rattle.cs_piece.specs.Pieces.{IsPieceOf}
use Rattle.cs_segment.specs.SegmentFile.{base_column}
use Rattle.cs_segment.specs.SegmentData.{SegmentData}
use Rattle.cs_segment.proofs.PartLists.{all-push}
use Rattle.cs_segment.proofs.SegmentColumns.{cells_at, kind_is, fits_encoding}
use Rattle.format_tests.proofs.segments.vectors.pieces_of.Goals as goal

pub encode_piece-requires : goal.encode_piece-requires
encode_piece-requires c =
    let C = c.args.catalog.now in
    let base = c.args.segment.now.base in
    let j = c.loop-j.j in
    let x = c.column-item.result in
    let xs = c.deref-column-items.result.now in
    let columns = ap (map values) c.deref-column-items.ensures.value ∙ ap (λ (s : SegmentData). s.base.columns) c.segment.view_is in
    let kinds = ap (map kind_of) c.deref-column-items.ensures.value ∙ ap (λ (s : SegmentData). s.kinds) c.segment.view_is ∙ c.requires.kinds in
    let here : j < length base.columns = omega (arith, length-map xs values, ap length columns) in
    rw (c.code.ensures, kind_is C c.args.p xs j x kinds c.loop-j-test.true c.column-item.is, cells_at base.columns xs j x columns c.loop-j-test.true c.column-item.is)
    (fits_encoding (code_at C c.args.p j) (kind_at C c.args.p j) (base_column base j) (c.requires.base.columns j here))

pub loop-j-preserved : goal.loop-j-preserved
loop-j-preserved c =
    let i = c.loop-j.invariant in
    let C = c.args.catalog.now in
    let base = c.args.segment.now.base in
    let j = c.loop-j.j in
    let x = c.column-item.result in
    let xs = c.deref-column-items.result.now in
    let pieces = c.loop-j.pieces.items in
    let piece = c.in_ok-encode_piece.field-0 in
    let columns = ap (map values) c.deref-column-items.ensures.value ∙ ap (λ (s : SegmentData). s.base.columns) c.segment.view_is in
    let kinds = ap (map kind_of) c.deref-column-items.ensures.value ∙ ap (λ (s : SegmentData). s.kinds) c.segment.view_is ∙ c.requires.kinds in
    let P : ℕ → Piece → Type 0 = λ n y. IsPieceOf y (code_at C c.args.p n) (kind_at C c.args.p n) (base_column base n) in
    let made = rw (c.code.ensures, kind_is C c.args.p xs j x kinds c.loop-j-test.true c.column-item.is, cells_at base.columns xs j x columns c.loop-j-test.true c.column-item.is) at c.in_ok-encode_piece.ensures in
    let Q : ℕ → Type 0 = λ n. P n piece in
    let place : j ≡ 0 + length pieces = omega (arith, i.count) in
    rw c.in_ok-push.ensures.items (record {
      count = length_push pieces piece ∙ ap (λ n. n + 1) i.count;
      pieces_are = all-push P 0 pieces piece i.pieces_are (subst Q place made);
    })
