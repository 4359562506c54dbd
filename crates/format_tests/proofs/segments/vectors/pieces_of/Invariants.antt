use Rattle.std.proofs.Common.{◌≡◌, length}
use Rattle.cs_schema.specs.CatalogData.{code_at, kind_at}
use Rattle.cs_piece.specs.Pieces.{IsPieceOf}
use Rattle.cs_segment.specs.SegmentFile.{base_column}
use Rattle.cs_segment.specs.Parts.{AllFrom}
use Rattle.format_tests.proofs.segments.vectors.pieces_of.Given as goal

abbrev pub invariant-loop-j : goal.invariant-loop-j
invariant-loop-j l = record {
  count : length l.pieces.items ≡ l.j;
  pieces_are : AllFrom (λ j piece. IsPieceOf piece (code_at l.catalog l.p j) (kind_at l.catalog l.p j) (base_column l.segment.base j)) 0 l.pieces.items;
}
