-- Sealed files, and the files of segments.
use Rattle.std.specs.Prelude.{◌≡◌, ℕ, ◌<◌, ◌≤◌, List, [], ◌∷◌, ◌++◌, map, length, slice_index_or, codes}
use Rattle.std.specs.List.{concat}
use Rattle.sha2.specs.Sha256.{sha256}
use Rattle.cs_schema.specs.declared.kinds.Kind.{Kind}
use Rattle.cs_schema.specs.declared.kinds.Code.{Code}
use Rattle.cs_schema.specs.declared.cells.Value.{Value}
use Rattle.cs_schema.specs.Lists.{numbers_below}
use Rattle.cs_schema.specs.CatalogData.{CatalogData, projection, code_at, kind_at}
use Rattle.cs_schema.specs.Rows.{cell}
use Rattle.cs_schema.specs.Order.{row_limit}
use Rattle.cs_codec.specs.ColumnText.{column_text, FitsColumn}
use Rattle.cs_segment.specs.Bytes.{be16, be32}

-- x, followed by its SHA-256 digest (FIPS 180-4)
abbrev pub sealed : List ℕ → List ℕ
sealed x = x ++ sha256 x

-- the base of a segment: its number of rows, and its columns in the projection's order
pub record Base : Type 0 where
  pub rows : ℕ
  pub columns : List (List Value)

abbrev pub base_column : Base → ℕ → List Value
base_column b j = slice_index_or b.columns j []

-- row i of the base, from 0
abbrev pub base_row : Base → ℕ → List Value
base_row b i = map (λ v. cell v i) b.columns

abbrev pub code_number : Code → ℕ
code_number Code.Runs = 1
code_number Code.Bitmaps = 2
code_number Code.Differences = 3
code_number Code.Plain = 4

abbrev pub kind_number : Kind → ℕ
kind_number Kind.Int = 1
kind_number Kind.Text = 2

-- the base has the projection's columns, each with one cell a row and fit for its code
pub record IsBase (C : CatalogData) (p : ℕ) (b : Base) : Type 0 where
  pub count : b.rows ≤ row_limit
  pub width : length b.columns ≡ length (projection C p).columns
  pub lengths : (j : ℕ) → j < length b.columns → length (base_column b j) ≡ b.rows
  pub columns : (j : ℕ) → j < length b.columns → FitsColumn (code_at C p j) (kind_at C p j) (base_column b j)

abbrev pub column_part : CatalogData → ℕ → Base → ℕ → List ℕ
column_part C p b j =
    let body : List ℕ = column_text (code_at C p j) (base_column b j) in
    code_number (code_at C p j) ∷ kind_number (kind_at C p j) ∷ be32 (length body) ++ body

-- a segment's file without its digest
abbrev pub segment_body : CatalogData → ℕ → ℕ → Base → List ℕ
segment_body C p s b = codes "CSSEG001" ++ be16 p ++ be16 s ++ be32 b.rows ++ be16 (length b.columns) ++ concat (map (column_part C p b) (numbers_below (length b.columns)))

abbrev pub segment_text : CatalogData → ℕ → ℕ → Base → List ℕ
segment_text C p s b = sealed (segment_body C p s b)

-- the bytes are the file of this base
pub record IsSegmentFile (C : CatalogData) (p s : ℕ) (bytes : List ℕ) (b : Base) : Type 0 where
  pub base : IsBase C p b
  pub text : bytes ≡ segment_text C p s b

-- the base that has these projected rows, in this order
abbrev pub base_of : CatalogData → ℕ → List (List Value) → Base
base_of C p xs = record { rows = length xs; columns = map (λ j. map (λ x. cell x j) xs) (numbers_below (length (projection C p).columns)) }
