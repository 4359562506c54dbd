-- Values under differences, as bytes.
use Rattle.std.specs.Prelude.{◌≡◌, ℕ, zero, suc, ◌*◌, ◌%◌, ◌^◌, ◌<◌, ◌≤◌, if◌then◌else◌, ◌==◌, List, ◌++◌, length, drop, ℤ, ◌-ℤ◌, ◌≤ℤ◌}
use Rattle.std.specs.Int.RustNames.{unsigned_abs}
use Rattle.cs_codec.specs.Cells.{number, int_cell, IsInt}
use Rattle.cs_codec.specs.Texts.{groups, short, NeverFalls}

-- at most 1,048,576 values, none below the one before it
pub record NeverFallsShort (cells : List ℤ) : Type 0 where
  pub short : length cells ≤ 1048576
  pub never_falls : NeverFalls cells

-- the bytes of the value x at position p
abbrev pub item : ℤ → ℕ → ℤ → List ℕ
item before p x = if p % 128 == 1 then number p ++ int_cell x else short (unsigned_abs (x -ℤ before))

-- numbers below this limit have at most more + 1 groups
abbrev pub group_limit : ℕ → ℕ
group_limit zero = 128
group_limit (suc more) = 128 * group_limit more

-- the number n is encoded at offset `start` of `text`, in at most more + 1 groups, up to offset `end`
pub record GroupsStandAt (more : ℕ) (text : List ℕ) (start n end : ℕ) : Type 0 where
  pub fits : n < 2 ^ 64
  pub few : n < group_limit more
  pub parts : drop start text ≡ groups more n ++ drop end text
  pub later : start < end
  pub within : end ≤ length text

-- no number is encoded at offset `start` of `text` in at most more + 1 groups
abbrev pub NoGroupsStandAt : ℕ → List ℕ → ℕ → Type 0
NoGroupsStandAt more text start = (n : ℕ) (rest : List ℕ) → n < 2 ^ 64 → n < group_limit more → drop start text ≡ groups more n ++ rest → ⊥

-- x is encoded at offset `start` of `text` as the value of position p after `before`, up to offset `end`
pub record ValueStandsAt (before : ℤ) (p : ℕ) (text : List ℕ) (start : ℕ) (x : ℤ) (end : ℕ) : Type 0 where
  pub fits : IsInt x
  pub rises : before ≤ℤ x
  pub parts : drop start text ≡ item before p x ++ drop end text
  pub within : end ≤ length text

-- no value of position p that is not below `before` is encoded at offset `start` of `text`
abbrev pub NoValueStandsAt : ℤ → ℕ → List ℕ → ℕ → Type 0
NoValueStandsAt before p text start = (x : ℤ) (rest : List ℕ) → IsInt x → before ≤ℤ x → drop start text ≡ item before p x ++ rest → ⊥
