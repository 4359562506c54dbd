-- A value that stands twice.
use Rattle.std.specs.Prelude.{◌≡◌, ◌≢◌, ℕ, ◌<◌, List, length}
use Rattle.cs_schema.specs.declared.cells.Value.{Value}
use Rattle.cs_schema.specs.Rows.{cell}

-- no two of the values before a place are the same
abbrev pub AreDistinctBefore : List Value → ℕ → Type 0
AreDistinctBefore keys n = (i j : ℕ) → i < j → j < n → cell keys i ≢ cell keys j

-- the first value that is also an earlier one
pub record IsFirstRepeat (keys : List Value) (first again : ℕ) (key : Value) : Type 0 where
  pub before : first < again
  pub there : again < length keys
  pub is_first : cell keys first ≡ key
  pub is_again : cell keys again ≡ key
  pub distinct : AreDistinctBefore keys again
