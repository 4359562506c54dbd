-- The parts of a segment's file: its header, and a part for each column, which is the column's header and body.
use Rattle.std.specs.Prelude.{◌≡◌, ℕ, ◌+◌, ◌≤◌, List, [], ◌∷◌, ◌++◌, length, take, codes}
use Rattle.cs_schema.specs.declared.kinds.Kind.{Kind}
use Rattle.cs_schema.specs.declared.kinds.Code.{Code}
use Rattle.cs_schema.specs.declared.cells.Value.{Value}
use Rattle.cs_schema.specs.CatalogData.{CatalogData, projection}
use Rattle.cs_schema.specs.Order.{row_limit}
use Rattle.cs_segment.specs.Bytes.{be16, be32}
use Rattle.cs_codec.specs.ColumnText.{column_text, FitsColumn}
use Rattle.cs_segment.specs.SegmentFile.{Base, code_number, kind_number}
use Rattle.cs_schema.specs.CatalogData.{code_at, kind_at}

abbrev pub part_text : Code → Kind → List Value → List ℕ
part_text code kind v = code_number code ∷ kind_number kind ∷ be32 (length (column_text code v)) ++ column_text code v

-- P holds of each item and its number, if the first item has number j
abbrev pub AllFrom : {X : Type 0} → (ℕ → X → Type 0) → ℕ → List X → Type 0
AllFrom P j [] = Unit {0}
AllFrom P j (v ∷ vs) = P j v × AllFrom P (j + 1) vs

-- this is column j of a segment of this many rows: it has that length and fits its code
pub record IsColumnAt (C : CatalogData) (p rows j : ℕ) (v : List Value) : Type 0 where
  pub rows_are : length v ≡ rows
  pub fits : FitsColumn (code_at C p j) (kind_at C p j) v

-- the parts of these columns, the first of which has number j
abbrev pub parts_text : CatalogData → ℕ → ℕ → List (List Value) → List ℕ
parts_text C p j [] = []
parts_text C p j (v ∷ vs) = part_text (code_at C p j) (kind_at C p j) v ++ parts_text C p (j + 1) vs

-- the bytes are the parts of these columns, which are all of a projection's
pub record AreParts (C : CatalogData) (p : ℕ) (bytes : List ℕ) (rows : ℕ) (columns : List (List Value)) : Type 0 where
  pub text : bytes ≡ parts_text C p 0 columns
  pub width : length columns ≡ length (projection C p).columns
  pub columns_are : AllFrom (IsColumnAt C p rows) 0 columns

-- the header of a segment's file, up to the first part
abbrev pub head_text : ℕ → ℕ → ℕ → ℕ → List ℕ
head_text p s rows width = codes "CSSEG001" ++ be16 p ++ be16 s ++ be32 rows ++ be16 width

-- the bytes begin with the header of a segment of this many rows
pub record BeginsWithHead (p s width : ℕ) (bytes : List ℕ) (rows : ℕ) (rest : List ℕ) : Type 0 where
  pub text : bytes ≡ head_text p s rows width ++ rest
  pub count : rows ≤ row_limit

-- a segment's file up to column j
abbrev pub text_before : CatalogData → ℕ → ℕ → Base → ℕ → List ℕ
text_before C p s b j = head_text p s b.rows (length (projection C p).columns) ++ parts_text C p 0 (take j b.columns)
