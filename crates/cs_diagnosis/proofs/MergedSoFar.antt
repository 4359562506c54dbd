-- The differences of two tables below an index of each.
use Rattle.std.proofs.Common.{◌≡◌, ◌≢◌, ℕ, ◌+◌, ◌<◌, ◌≤◌, List, [], length, refl, arith, Some, None}
use Rattle.std.specs.List.{slice_get}
use Rattle.std.specs.List.Sorted.{IsStrictlySortedBy}
use Rattle.std.specs.declared.cmp.Ordering.TheVariants.{Less}
use Rattle.cs_schema.specs.declared.cells.Value.{Value}
use Rattle.cs_schema.specs.Lists.{IsIn}
use Rattle.cs_schema.specs.Rows.{Row, cell}
use Rattle.cs_schema.specs.Values.{value_cmp}
use Rattle.cs_diagnosis.specs.declared.merging.Dispute.{Dispute}
use Rattle.cs_diagnosis.specs.Disputes.{LacksKey, IsDispute}

abbrev pub alone_first : ℕ → Dispute
alone_first i = record { first = Some i; second = None }

abbrev pub alone_second : ℕ → Dispute
alone_second j = record { first = None; second = Some j }

abbrev pub of_both : ℕ → ℕ → Dispute
of_both i j = record { first = Some i; second = Some j }

-- earlier rows have smaller keys
abbrev pub Rising : ℕ → List Row → Type 0
Rising key T = (i j : ℕ) (r q : Row) → i < j → slice_get T i ≡ Some r → slice_get T j ≡ Some q → value_cmp (cell r key) (cell q key) ≡ Less

-- a key is less than those of all rows from an index on
abbrev pub IsBefore : ℕ → List Row → ℕ → Value → Type 0
IsBefore key T i v = (k : ℕ) (r : Row) → i ≤ k → slice_get T k ≡ Some r → value_cmp v (cell r key) ≡ Less

-- all disputes of the rows below an index of each table were found
pub record IsMerged (key : ℕ) (T U : List Row) (i j : ℕ) (all : List Dispute) : Type 0 where
  pub keys : List Value
  pub in_order : IsStrictlySortedBy value_cmp keys
  pub count : length keys ≡ length all
  pub few : length all ≤ i + j
  pub each : (n : ℕ) (v : Value) (d : Dispute) → slice_get keys n ≡ Some v → slice_get all n ≡ Some d → IsDispute key T U v d
  pub below_first : (v : Value) → IsIn v keys → IsBefore key T i v
  pub below_second : (v : Value) → IsIn v keys → IsBefore key U j v
  pub first_passed : (k : ℕ) (r : Row) → k < i → slice_get T k ≡ Some r → IsBefore key U j (cell r key)
  pub second_passed : (l : ℕ) (q : Row) → l < j → slice_get U l ≡ Some q → IsBefore key T i (cell q key)
  pub first_done : (k : ℕ) (r : Row) → k < i → slice_get T k ≡ Some r → LacksKey key U (cell r key) → IsIn (alone_first k) all
  pub both_done : (k l : ℕ) (r q : Row) → k < i → slice_get T k ≡ Some r → slice_get U l ≡ Some q → cell q key ≡ cell r key → r ≢ q → IsIn (of_both k l) all
  pub second_done : (l : ℕ) (q : Row) → l < j → slice_get U l ≡ Some q → LacksKey key T (cell q key) → IsIn (alone_second l) all

none_at : {X : Type 0} {A : Type 0} (x : X) → None ≡ Some x → A
none_at x e = absurd (cc e)

pub begun : (key : ℕ) (T U : List Row) → IsMerged key T U 0 0 []
unfolding IsStrictlySortedBy
begun key T U = record {
  keys = [];
  in_order = tt;
  count = refl;
  few = omega arith;
  each = λ n v d a b. none_at v a;
  below_first = λ v h. absurd h;
  below_second = λ v h. absurd h;
  first_passed = λ k r h. absurd (omega arith);
  second_passed = λ k r h. absurd (omega arith);
  first_done = λ k r h. absurd (omega arith);
  both_done = λ k l r q h. absurd (omega arith);
  second_done = λ l q h. absurd (omega arith);
}
