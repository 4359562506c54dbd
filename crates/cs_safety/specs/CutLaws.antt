-- What the row at the cuts has in each column.
use Rattle.std.specs.Prelude.{◌≡◌, ℕ, ◌<◌, ◌⊎◌, false, length, IsTrue}
use Rattle.std.specs.Ordering.{is_le}
use Rattle.cs_schema.specs.declared.cells.Value.{Value}
use Rattle.cs_schema.specs.Lists.{IsIn}
use Rattle.cs_schema.specs.Values.{value_cmp}
use Rattle.cs_schema.specs.CatalogData.{CatalogData, projection, column}
use Rattle.cs_schema.specs.CatalogRules.{IsCatalog}
use Rattle.cs_schema.specs.Rows.{Row, IsRow, cell}
use Rattle.cs_safety.specs.SafetyCuts.{first_sort, least_of, at_cuts}

-- some projection is cut there on the column
abbrev pub IsCutOn : CatalogData → ℕ → Value → Type 0
IsCutOn C c cut = (p : ℕ) × (p < length C.projections) × (first_sort C p ≡ c) × IsIn cut (projection C p).cuts

-- the greatest cut on the column that is not above the value
pub record IsGreatestCut (C : CatalogData) (c : ℕ) (v cut : Value) : Type 0 where
  pub is_cut : IsCutOn C c cut
  pub at_most : IsTrue (is_le (value_cmp cut v))
  pub greatest : (d : Value) → IsCutOn C c d → IsTrue (is_le (value_cmp d v)) → IsTrue (is_le (value_cmp d cut))

-- each cut on the column is above the value
abbrev pub AllCutsAreAbove : CatalogData → ℕ → Value → Type 0
AllCutsAreAbove C c v = (d : Value) → IsCutOn C c d → is_le (value_cmp d v) ≡ false

-- a cell of the row at the cuts is the greatest cut on its column, of any projection, that is not above the row's cell, and
-- where there is none the least value of the kind
abbrev pub CellsAreGreatestCuts : Type 0
CellsAreGreatestCuts =
    (C : CatalogData) → IsCatalog C → (r : Row) → IsRow C r → (c : ℕ) → c < length C.columns
    → IsGreatestCut C c (cell r c) (cell (at_cuts C r) c) ⊎ ((cell (at_cuts C r) c ≡ least_of (column C c).kind) × AllCutsAreAbove C c (cell r c))
