-- An image compared with rows of the table, cell by cell.
use Rattle.std.specs.Prelude.{◌≡◌, ℕ, ◌<◌, ◌≤◌, List, length, map, slice_index}
use Rattle.std.specs.List.{slice_get}
use Rattle.cs_schema.specs.Rows.{cell}
use Rattle.cs_delta.specs.KindedImage.{KindedImage, image_column}
use Rattle.cs_rows.specs.WalkedView.{WalkedData}

-- the image has as many rows as there are numbers and as many columns as are listed; the table has these rows and
-- columns
pub record AreComparable (image : KindedImage) (walked : WalkedData) (columns numbers : List ℕ) : Type 0 where
  pub count : length image.image.pairs ≡ length numbers
  pub width : length image.kinds ≡ length columns
  pub columns_exist : (j : ℕ) → j < length columns → slice_index columns j < length walked.kinds
  pub rows_exist : (k : ℕ) → k < length numbers → slice_index numbers k < length walked.rows

-- cell k of column j of the image is that of the row with the k-th number
abbrev pub IsCellThere : KindedImage → WalkedData → List ℕ → List ℕ → ℕ → ℕ → Type 0
IsCellThere image walked columns numbers j k = slice_get (image_column image.image j) k ≡ slice_get (map (λ row. cell row (slice_index columns j)) walked.rows) (slice_index numbers k)

-- all cells of column j of the image are those of the rows with these numbers
abbrev pub IsColumnThere : KindedImage → WalkedData → List ℕ → List ℕ → ℕ → Type 0
IsColumnThere image walked columns numbers j = (k : ℕ) → k < length numbers → IsCellThere image walked columns numbers j k

-- as many cells as numbers, and each number is the index of a cell in a column
pub record AreBeside {X : Type 0} (cells column : List X) (numbers : List ℕ) : Type 0 where
  pub count : length cells ≡ length numbers
  pub below : (k : ℕ) → k < length numbers → slice_index numbers k < length column

-- from `start` to `end`, cell k is that of the column at the k-th number
abbrev pub AreAlike : {X : Type 0} → List X → List X → List ℕ → ℕ → ℕ → Type 0
AreAlike cells column numbers start end = (k : ℕ) → start ≤ k → k < end → slice_get cells k ≡ slice_get column (slice_index numbers k)
