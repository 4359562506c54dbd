-- Which of two tables has the next key.
use Rattle.std.specs.Prelude.{◌≡◌, ℕ, List, Some}
use Rattle.std.specs.List.{slice_get}
use Rattle.std.specs.declared.cmp.Ordering.{Ordering}
use Rattle.std.specs.declared.cmp.Ordering.TheVariants.{Less, Equal, Greater}
use Rattle.cs_schema.specs.Rows.{Row, cell}
use Rattle.cs_schema.specs.Values.{value_cmp}

-- which of two rows has the smaller key, or that they have the same one; a table without a row at its index comes
-- second
pub data IsNext (key : ℕ) (T U : List Row) (i j : ℕ) (o : Ordering) : Type 0 where
  first : (r : Row) → slice_get T i ≡ Some r → ((q : Row) → slice_get U j ≡ Some q → value_cmp (cell r key) (cell q key) ≡ Less) → o ≡ Less → IsNext key T U i j o
  second : (q : Row) → slice_get U j ≡ Some q → ((r : Row) → slice_get T i ≡ Some r → value_cmp (cell q key) (cell r key) ≡ Less) → o ≡ Greater → IsNext key T U i j o
  both : (r q : Row) → slice_get T i ≡ Some r → slice_get U j ≡ Some q → cell r key ≡ cell q key → o ≡ Equal → IsNext key T U i j o
