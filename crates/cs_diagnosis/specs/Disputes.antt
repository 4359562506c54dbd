-- Where two tables differ. A table is a map from keys to rows, given as its rows by ascending key.
use Rattle.std.specs.Prelude.{◌≡◌, ◌≢◌, ℕ, List, length, Some, None}
use Rattle.std.specs.List.{slice_get}
use Rattle.std.specs.List.Sorted.{IsStrictlySortedBy}
use Rattle.cs_schema.specs.declared.cells.Value.{Value}
use Rattle.cs_schema.specs.Lists.{IsIn}
use Rattle.cs_schema.specs.Rows.{Row, cell}
use Rattle.cs_schema.specs.Values.{value_cmp}
use Rattle.cs_diagnosis.specs.declared.merging.Dispute.{Dispute}

-- no row of the table has this key
abbrev pub LacksKey : ℕ → List Row → Value → Type 0
LacksKey key T v = (r : Row) → IsIn r T → cell r key ≢ v

-- Two tables differ at a key: only one has it, or their rows with this key differ. A dispute has the indices of these
-- rows.
pub data IsDispute (key : ℕ) (T U : List Row) (v : Value) (d : Dispute) : Type 0 where
  first_alone : (i : ℕ) (r : Row) → slice_get T i ≡ Some r → cell r key ≡ v → LacksKey key U v → d ≡ record { first = Some i; second = None } → IsDispute key T U v d
  second_alone : (j : ℕ) (q : Row) → slice_get U j ≡ Some q → cell q key ≡ v → LacksKey key T v → d ≡ record { first = None; second = Some j } → IsDispute key T U v d
  different : (i j : ℕ) (r q : Row) → slice_get T i ≡ Some r → slice_get U j ≡ Some q → cell r key ≡ v → cell q key ≡ v → r ≢ q → d ≡ record { first = Some i; second = Some j } → IsDispute key T U v d

-- All disputes of two tables, each once, by ascending key: their symmetric difference.
pub record AreDisputes (key : ℕ) (T U : List Row) (all : List Dispute) : Type 0 where
  pub keys : List Value
  pub in_order : IsStrictlySortedBy value_cmp keys
  pub count : length keys ≡ length all
  pub each : (n : ℕ) (v : Value) (d : Dispute) → slice_get keys n ≡ Some v → slice_get all n ≡ Some d → IsDispute key T U v d
  pub complete : (v : Value) (d : Dispute) → IsDispute key T U v d → IsIn d all
