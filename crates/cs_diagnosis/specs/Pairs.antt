-- Pairs of sites, one of which must be lost.
use Rattle.std.specs.Prelude.{◌≡◌, ◌⊎◌, ◌<◌, ◌≤◌, ℕ, List, Some, IsTrue}
use Rattle.std.specs.List.{slice_get}
use Rattle.cs_schema.specs.Lists.{member, IsIn}
use Rattle.cs_schema.specs.Losses.{Sites}
use Rattle.cs_safety.specs.Within.{IsWithin}

-- the loss contains a site of each pair of the first site with one of the others
abbrev pub IsHit : Sites → ℕ × Sites → Type 0
IsHit L c = IsTrue (member L c.0) ⊎ IsWithin c.1 L

abbrev pub AreHit : List (ℕ × Sites) → Sites → Type 0
AreHit pairs L = (c : ℕ × Sites) → IsIn c pairs → IsHit L c

-- the first of each is a site
abbrev pub AreOfSites : List (ℕ × Sites) → Type 0
AreOfSites pairs = (c : ℕ × Sites) → IsIn c pairs → (1 ≤ c.0) × (c.0 ≤ 16)

-- the entry of site n + 1 has only sites from it on, so each pair of sites is stored once
abbrev pub AreKeptOnce : List Sites → Type 0
AreKeptOnce with = (n y : ℕ) (others : Sites) → slice_get with n ≡ Some others → IsTrue (member others y) → n < y
