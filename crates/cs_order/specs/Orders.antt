-- The rows of all segments, as numbers of the rows of a list.
use Rattle.std.specs.Prelude.{◌≡◌, ℕ, ◌<◌, nat_lt, List, [], map, length, All, Option, Some, slice_get, slice_index_or}
use Rattle.std.specs.List.{find}
use Rattle.cs_schema.specs.CatalogData.{CatalogData, segments}
use Rattle.cs_schema.specs.Rows.{Row}
use Rattle.cs_schema.specs.Order.{rows_of, row_limit}
use Rattle.cs_order.specs.Tables.{all_segments, table_of}

-- the number of rows, and the row numbers of each segment, by projection and segment
pub record OrdersData : Type 0 where
  pub rows : ℕ
  pub segments : List (List (List ℕ))

abbrev pub numbers_in : OrdersData → ℕ → ℕ → List ℕ
numbers_in o p s = slice_index_or (slice_index_or o.segments p []) s []

abbrev pub row_at : List Row → ℕ → Row
row_at rows i = slice_index_or rows i []

-- the numbers of each segment are those of the table's rows there, in order
pub record AreOrdersOf (C : CatalogData) (rows : List Row) (o : OrdersData) : Type 0 where
  pub count : o.rows ≡ length rows
  pub projections : length o.segments ≡ length C.projections
  pub segments : (p : ℕ) → p < length C.projections → length (slice_index_or o.segments p []) ≡ segments C p
  pub below : (p s : ℕ) → p < length C.projections → All (λ i. i < length rows) (numbers_in o p s)
  pub each : (p s : ℕ) → p < length C.projections → map (row_at rows) (numbers_in o p s) ≡ rows_of C (table_of C rows) p s

-- a row is at an index of a segment
abbrev pub StandsAt : OrdersData → ℕ → ℕ → ℕ → ℕ → Type 0
StandsAt o p row s index = slice_get (numbers_in o p s) index ≡ Some row

-- the first range that has too many rows
abbrev pub first_full : CatalogData → List Row → Option (ℕ × ℕ)
first_full C T = find (λ (a : ℕ × ℕ). nat_lt row_limit (length (rows_of C T a.0 a.1))) (all_segments C)
