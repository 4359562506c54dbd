-- Pieces that encode the columns of a segment.
use Rattle.std.specs.Prelude.{◌≡◌, ℕ, List, length}
use Rattle.cs_schema.specs.CatalogData.{CatalogData, code_at, kind_at}
use Rattle.cs_piece.specs.declared.pieces.Piece.{Piece}
use Rattle.cs_piece.specs.Pieces.{IsPieceOf}
use Rattle.cs_segment.specs.SegmentFile.{Base, IsBase, base_column}
use Rattle.cs_segment.specs.Parts.{AllFrom}

-- each piece encodes the base's column of its number
pub record ArePiecesOf (C : CatalogData) (p rows : ℕ) (pieces : List Piece) (b : Base) : Type 0 where
  pub base : IsBase C p b
  pub rows_are : b.rows ≡ rows
  pub width : length pieces ≡ length b.columns
  pub pieces_are : AllFrom (λ j piece. IsPieceOf piece (code_at C p j) (kind_at C p j) (base_column b j)) 0 pieces

-- the pieces encode the columns of some base of this many rows
abbrev pub AreOfSomeBase : CatalogData → ℕ → ℕ → List Piece → Type 0
AreOfSomeBase C p rows pieces = (b : Base) × ArePiecesOf C p rows pieces b
