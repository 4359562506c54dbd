-- The digests of a store's files, each by what the source says of one read.
use Rattle.std.specs.Prelude.{◌≡◌, ℕ, List, map, Option, None, Some}
use Rattle.sha2.specs.Sha256.{sha256}
use Rattle.cs_schema.specs.declared.file_name.FileName.{FileName}
use Rattle.cs_store.specs.LoadReadable.{Outcome, gave, failed, Outcomes, attempted, Attempted, AttemptsInTurn}
use Rattle.cs_store.specs.declared.fault.StoreFault.{StoreFault}
use Rattle.cs_manifest.specs.declared.digesting.Digested.{Digested}
use Rattle.cs_manifest.specs.declared.digesting.Digested.TheVariants.{Found, Missing, Unreadable}

-- the SHA-256 digest (FIPS 180-4)
abbrev pub digest : List ℕ → List ℕ
digest bytes = sha256 bytes

-- what a read came to: the digest of the bytes that it gave
abbrev pub digested : Outcome → Digested
digested (gave (Some bytes)) = Found (digest bytes)
digested (gave None) = Missing
digested failed = Unreadable

abbrev pub all_digested : Outcomes → List (FileName × Digested)
all_digested attempts = map (λ attempt. (attempt.0, digested attempt.1)) attempts

module _ {S : Type 0} (gives : S → FileName → Option (List ℕ) → S → Type 0) (refuses : S → FileName → StoreFault → S → Type 0) where
  -- the file of this name was read, and came to this
  pub record DigestsFile (s : S) (name : FileName) (found : Digested) (t : S) : Type 0 where
    pub outcome : Outcome
    pub attempt : Attempted gives refuses s name outcome t
    pub is : found ≡ digested outcome

  -- each name was read, in order, and this is what the reads came to
  pub record DigestsFiles (names : List FileName) (s : S) (files : List (FileName × Digested)) (t : S) : Type 0 where
    pub attempts : Outcomes
    pub in_order : attempted attempts ≡ names
    pub in_turn : AttemptsInTurn gives refuses s attempts t
    pub just_these : files ≡ all_digested attempts
