-- The chunks and the bodies of a segment's columns, and the file that these form.
use Rattle.std.specs.Prelude.{◌≡◌, ℕ, ◌+◌, ◌*◌, ◌^◌, ◌<◌, ◌≤◌, min, List, length, slice_index}
use Rattle.std.specs.Global.{Vec}
use Rattle.cs_schema.specs.declared.kinds.Code.{Code}
use Rattle.cs_schema.specs.declared.kinds.Kind.{Kind}
use Rattle.cs_schema.specs.declared.cells.Value.{Value}
use Rattle.cs_schema.specs.CatalogData.{code_at, kind_at, projection}
use Rattle.cs_schema.specs.Order.{row_limit}
use Rattle.cs_schema.specs.Values.{value_eq}
use Rattle.cs_codec.specs.ColumnText.{cell_bytes, column_text, FitsColumn}
use Rattle.cs_codec.specs.RunParts.{part_text}
use Rattle.cs_piece.specs.declared.pieces.Piece.{Piece}
use Rattle.cs_piece.specs.Pieces.{IsPieceOf}
use Rattle.cs_board.specs.Pieces.{AnswersInOrder}
use Rattle.cs_segment.specs.SegmentWriter.{joined}
use Rattle.cs_segment.specs.Parts.{text_before}
use Rattle.cs_segment.specs.SegmentFile.{Base}
use Rattle.cs_rebuild.specs.Encoding.{base_at, cut_at, values_at, Rises}
use Rattle.cs_rebuild.specs.declared.segment_encoder.SegmentEncoder.{SegmentEncoder}

-- the number of columns
abbrev pub column_count : SegmentEncoder → ℕ
column_count e = length (projection e.store.now.catalog.now e.p).columns

abbrev pub HasColumn : SegmentEncoder → ℕ → Type 0
HasColumn e j = j < column_count e

abbrev pub code_in : SegmentEncoder → ℕ → Code
code_in e j = code_at e.store.now.catalog.now e.p j

abbrev pub kind_in : SegmentEncoder → ℕ → Kind
kind_in e j = kind_at e.store.now.catalog.now e.p j

-- the values of a column at the rows with these numbers
abbrev pub values_in : SegmentEncoder → ℕ → List ℕ → List Value
values_in e j numbers = values_at e.store.now.catalog.now e.p e.store.now.walked.rows j numbers

-- the base of the segment
abbrev pub base_in : SegmentEncoder → Base
base_in e = base_at e.store.now.catalog.now e.p e.store.now.walked.rows e.numbers.now

-- the numbers are those of rows, of which there are few, and the values of the column there fit its code
pub record CanEncodeAt (e : SegmentEncoder) (j : ℕ) (numbers : List ℕ) : Type 0 where
  pub below : (k : ℕ) → k < length numbers → slice_index numbers k < length e.store.now.walked.rows
  pub few : length numbers ≤ row_limit
  pub rises : code_in e j ≡ Code.Differences → (kind_in e j ≡ Kind.Int) × Rises (values_in e j numbers)

-- the piece has the values of a column at the rows with these numbers
abbrev pub IsPieceAt : SegmentEncoder → ℕ → List ℕ → Piece → Type 0
IsPieceAt e j numbers piece = IsPieceOf piece (code_in e j) (kind_in e j) (values_in e j numbers)

-- the k-th chunk of a column
abbrev pub IsChunk : SegmentEncoder → ℕ → ℕ → Piece → Type 0
IsChunk e j k = IsPieceAt e j (cut_at e.cut e.numbers.now k)

-- the chunks of a column, in order
pub record AreChunks (e : SegmentEncoder) (j : ℕ) (chunks : List Piece) : Type 0 where
  pub count : length chunks ≡ e.chunks
  pub each : AnswersInOrder (IsChunk e j) chunks

-- the encoding of the runs that begin in the k-th chunk of a column
abbrev pub IsRunsChunk : SegmentEncoder → ℕ → ℕ → List ℕ → Type 0
IsRunsChunk e j k runs = runs ≡ part_text cell_bytes value_eq (values_in e j e.numbers.now) (min (k * e.cut) (length e.numbers.now)) (min (k * e.cut + e.cut) (length e.numbers.now))

-- the body of a column with these values; it is short if they fit the code
pub record IsColumnBody (code : Code) (kind : Kind) (v : List Value) (body : List ℕ) : Type 0 where
  pub is : body ≡ column_text code v
  pub short : FitsColumn code kind v → length body < 2 ^ 32

-- the body of a column, in parts
abbrev pub IsBody : SegmentEncoder → ℕ → Vec (Vec ℕ) → Type 0
IsBody e j body = IsColumnBody (code_in e j) (kind_in e j) (values_in e j e.numbers.now) (joined body.items)

-- the file holds the first `count` columns, and nothing after them
abbrev pub HoldsFirst : SegmentEncoder → ℕ → List ℕ → Type 0
HoldsFirst e count file = file ≡ text_before e.store.now.catalog.now e.p e.s (base_in e) count

-- a file that held the columns before this one now holds this one too
abbrev pub Appends : SegmentEncoder → ℕ → List ℕ → List ℕ → Type 0
Appends e j old new = HoldsFirst e j old → HoldsFirst e (j + 1) new
