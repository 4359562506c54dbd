-- How many sites a diagnosis tries, and for how many changed sites its result is certain.
use Rattle.std.specs.Prelude.{◌≡◌, ℕ, ◌+◌, ◌*◌, ◌≤◌, Option, None, Some, MatchOption, IfSome}
use Rattle.cs_schema.specs.CatalogData.{CatalogData}
use Rattle.cs_safety.specs.Safety.{IsKSafe}
use Rattle.cs_diagnosis.specs.declared.reaching.Reach.{Reach}

-- With `forced` forced sites and m other changed sites the table is still found: the forced ones and 2m others may be
-- lost.
pub record IsCorrected (C : CatalogData) (forced m : ℕ) : Type 0 where
  pub k : ℕ
  pub safe : IsKSafe C k
  pub fits : forced + 2 * m ≤ k

-- the maximum number of other changed sites for which that holds, if any
abbrev pub IsGreatestCorrected : CatalogData → ℕ → Option ℕ → Type 0
IsGreatestCorrected C forced result = MatchOption result ((n : ℕ) → ¬ IsCorrected C forced n) (λ m. IsCorrected C forced m × ((n : ℕ) → IsCorrected C forced n → n ≤ m))

-- a number of sites that is at least one, and enough for the forced sites and as many others as can be corrected
pub record IsFarEnough (C : CatalogData) (forced n : ℕ) : Type 0 where
  pub one : 1 ≤ n
  pub all_forced : forced ≤ n
  pub corrects : (m : ℕ) → IsCorrected C forced m → forced + m ≤ n

-- Losses of at most as many sites are tried as asked for, or else of the smallest number that is far enough. `certain`
-- is the greatest number of changed sites that losses of that many sites correct.
pub record IsReach (C : CatalogData) (forced : ℕ) (asked : Option ℕ) (r : Reach) : Type 0 where
  pub few : r.at_most ≤ 16
  pub asked_for : (n : ℕ) → asked ≡ Some n → r.at_most ≡ n
  pub far_enough : asked ≡ None → IsFarEnough C forced r.at_most
  pub least : asked ≡ None → (n : ℕ) → IsFarEnough C forced n → r.at_most ≤ n
  pub certain : IfSome r.certain (λ m. IsCorrected C forced m × (forced + m ≤ r.at_most))
  pub greatest : (n : ℕ) → IsCorrected C forced n → forced + n ≤ r.at_most → (m : ℕ) × (r.certain ≡ Some m) × (n ≤ m)
