-- The columns that pieces encode.
use Rattle.std.specs.Prelude.{◌≡◌, ◌<◌, ◌^◌, ◌↔◌, ℕ, Bool, IsTrue, List, [], ◌++◌, length, map, nat_eq}
use Rattle.std.specs.Ordering.{nat_cmp, int_eq, int_cmp}
use Rattle.std.specs.Cmp.Lexicographic.{pointwise, slice_cmp}
use Rattle.cs_schema.specs.declared.kinds.Code.{Code}
use Rattle.cs_schema.specs.declared.kinds.Kind.{Kind}
use Rattle.cs_schema.specs.declared.cells.Value.{Value}
use Rattle.cs_codec.specs.Cells.{int_cell, text_cell}
use Rattle.cs_codec.specs.Plain.{IsPlainPart}
use Rattle.cs_codec.specs.BitmapParts.{IsBitmapsPart}
use Rattle.cs_piece.specs.declared.pieces.Piece.{Piece}
use Rattle.cs_piece.specs.declared.pieces.Piece.TheVariants as pieces
use Rattle.cs_codec.specs.ColumnText.{column_text, FitsColumn}
use Rattle.cs_piece.specs.Columns.{CanEncode}

abbrev pub code_of : Piece → Code
code_of (pieces.IntRuns part) = Code.Runs
code_of (pieces.TextRuns part) = Code.Runs
code_of (pieces.IntBitmaps part) = Code.Bitmaps
code_of (pieces.TextBitmaps part) = Code.Bitmaps
code_of (pieces.RisingInts part) = Code.Differences
code_of pieces.NoTexts = Code.Differences
code_of (pieces.PlainInts part) = Code.Plain
code_of (pieces.PlainTexts part) = Code.Plain

abbrev pub kind_of_piece : Piece → Kind
kind_of_piece (pieces.IntRuns part) = Kind.Int
kind_of_piece (pieces.TextRuns part) = Kind.Text
kind_of_piece (pieces.IntBitmaps part) = Kind.Int
kind_of_piece (pieces.TextBitmaps part) = Kind.Text
kind_of_piece (pieces.RisingInts part) = Kind.Int
kind_of_piece pieces.NoTexts = Kind.Text
kind_of_piece (pieces.PlainInts part) = Kind.Int
kind_of_piece (pieces.PlainTexts part) = Kind.Text

-- the part encodes a list of ints or of texts that are these values
pub record StandsFor {P C : Type 0} (f : C → Value) (is_part : P → List C → Type 0) (part : P) (v : List Value) : Type 0 where
  pub cells : List C
  pub values_are : v ≡ map f cells
  pub part_is : is_part part cells

-- contracts see the part as its list of cells
abbrev pub IsList : {C : Type 0} → List C → List C → Type 0
IsList part cells = part ≡ cells

abbrev pub Holds : Piece → List Value → Type 0
Holds (pieces.IntRuns part) v = StandsFor Value.Int IsList part v
Holds (pieces.TextRuns part) v = StandsFor Value.Text IsList part v
Holds (pieces.IntBitmaps part) v = StandsFor Value.Int (IsBitmapsPart int_eq int_cmp) part v
Holds (pieces.TextBitmaps part) v = StandsFor Value.Text (IsBitmapsPart (pointwise nat_eq) (slice_cmp nat_cmp)) part v
Holds (pieces.RisingInts part) v = StandsFor Value.Int IsList part v
Holds pieces.NoTexts v = v ≡ []
Holds (pieces.PlainInts part) v = StandsFor Value.Int (IsPlainPart int_cell) part v
Holds (pieces.PlainTexts part) v = StandsFor Value.Text (IsPlainPart text_cell) part v

-- the piece has this code and kind, and encodes these values
pub record IsPieceOf (piece : Piece) (code : Code) (kind : Kind) (v : List Value) : Type 0 where
  pub code_is : code_of piece ≡ code
  pub kind_is : kind_of_piece piece ≡ kind
  pub holds : Holds piece v

-- pieces of one code and kind whose values, one after the other, can be encoded
pub record PiecesFit (left right : Piece) : Type 0 where
  pub code : Code
  pub kind : Kind
  pub front : List Value
  pub back : List Value
  pub left_is : IsPieceOf left code kind front
  pub right_is : IsPieceOf right code kind back
  pub fits : CanEncode code kind (front ++ back)

-- the codes are equal, the kinds are equal, and the values can be encoded one after the other
abbrev pub FitTogether : Code → Kind → List Value → Code → Kind → List Value → Type 0
FitTogether code kind front code' kind' back = (code ≡ code') × (kind ≡ kind') × CanEncode code kind (front ++ back)

-- the answer is whether the values of both pieces fit together
abbrev pub TellsFit : Piece → Piece → Bool → Type 0
TellsFit left right told = (code code' : Code) (kind kind' : Kind) (x y : List Value) → IsPieceOf left code kind x → IsPieceOf right code' kind' y → IsTrue told ↔ FitTogether code kind x code' kind' y

-- the piece encodes the values of the left one, followed by those of the right one
abbrev pub IsJoined : Piece → Piece → Piece → Type 0
IsJoined left right piece = (code : Code) (kind : Kind) (x y : List Value) → IsPieceOf left code kind x → IsPieceOf right code kind y → IsPieceOf piece code kind (x ++ y)

-- the bytes are the body of the column that the piece encodes
abbrev pub IsTextOf : Piece → List ℕ → Type 0
IsTextOf piece bytes = (code : Code) (kind : Kind) (v : List Value) → IsPieceOf piece code kind v → bytes ≡ column_text code v

-- there are fewer than 2 ^ 32 bytes, if the column fits
abbrev pub IsShortTextOf : Piece → List ℕ → Type 0
IsShortTextOf piece bytes = (code : Code) (kind : Kind) (v : List Value) → IsPieceOf piece code kind v → FitsColumn code kind v → length bytes < 2 ^ 32
