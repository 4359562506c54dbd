-- What a load does that goes on after reads that fail: reads in turn, each by what the source says of one read.
use Rattle.std.specs.Prelude.{◌≡◌, ◌⊎◌, ℕ, List, [], ◌∷◌, ◌++◌, map, Option, None, Some}
use Rattle.std.specs.FinMap.{entries, insert}
use Rattle.cs_schema.specs.declared.file_name.FileName.{FileName}
use Rattle.cs_store.specs.FileSet.{Files}
use Rattle.cs_store.specs.Fault.{CountsFault}
use Rattle.cs_store.specs.declared.fault.StoreFault.{StoreFault}
use Rattle.cs_store.specs.declared.fault.StoreFault.TheVariants.{Memory, Device}

-- what one read came to: it answered a file or that there is none, or the device failed
pub data Outcome : Type 0 where
  gave : Option (List ℕ) → Outcome
  failed : Outcome

-- the names that were read, each with what its read came to
abbrev pub Outcomes : Type 0
Outcomes = List (FileName × Outcome)

abbrev pub attempted : Outcomes → List FileName
attempted attempts = map (λ attempt. attempt.0) attempts

-- the files that were there
abbrev pub found : Outcomes → List (FileName × List ℕ)
found [] = []
found ((name, gave (Some bytes)) ∷ rest) = (name, bytes) ∷ found rest
found ((name, _) ∷ rest) = found rest

-- the names at which the device failed
abbrev pub failures : Outcomes → List FileName
failures [] = []
failures ((name, failed) ∷ rest) = name ∷ failures rest
failures ((name, _) ∷ rest) = failures rest

-- what a read came to was added to the files or to the unreadable names
abbrev pub Adds : FileName → Outcome → Files → List FileName → Files → List FileName → Type 0
Adds name (gave None) files unreadable files' unreadable' = (files' ≡ files) × (unreadable' ≡ unreadable)
Adds name (gave (Some bytes)) files unreadable files' unreadable' = (files' ≡ insert files name bytes) × (unreadable' ≡ unreadable)
Adds name failed files unreadable files' unreadable' = (files' ≡ files) × (unreadable' ≡ unreadable ++ name ∷ [])

module _ {S : Type 0} (gives : S → FileName → Option (List ℕ) → S → Type 0) (refuses : S → FileName → StoreFault → S → Type 0) where
  -- one read that came to this
  abbrev pub Attempted : S → FileName → Outcome → S → Type 0
  Attempted s name (gave file) t = gives s name file t
  Attempted s name failed t = refuses s name Device t

  -- from state s to state t, one read after the other came to this
  abbrev pub AttemptsInTurn : S → Outcomes → S → Type 0
  AttemptsInTurn s [] t = t ≡ s
  AttemptsInTurn s (attempt ∷ rest) t = (u : S) × Attempted s attempt.0 attempt.1 u × AttemptsInTurn u rest t

  -- one read came to something, which was added to the files and the unreadable names
  pub record Attempts (count : S → ℕ) (s : S) (name : FileName) (files : Files) (unreadable : List FileName) (files' : Files) (unreadable' : List FileName) (t : S) : Type 0 where
    pub outcome : Outcome
    pub attempt : Attempted s name outcome t
    pub added : Adds name outcome files unreadable files' unreadable'
    pub counts : outcome ≡ failed → CountsFault (count s) (count t)

  -- one read was refused for want of memory, or it came to something that was not added
  abbrev pub StopsAttempt : S → FileName → S → Type 0
  StopsAttempt s name t = refuses s name Memory t ⊎ ((outcome : Outcome) × Attempted s name outcome t)

  -- each name was read, in order; the files are just those that were there, and the unreadable names those at which the device failed
  pub record LoadsReadable (names : List FileName) (s : S) (files : Files) (unreadable : List FileName) (t : S) : Type 0 where
    pub attempts : Outcomes
    pub in_order : attempted attempts ≡ names
    pub in_turn : AttemptsInTurn s attempts t
    pub just_these : entries files ≡ found attempts
    pub just_failed : unreadable ≡ failures attempts

  -- Some names were read, in order, and then at most the read of the next was refused for want of memory.
  pub record AttemptsSome (names : List FileName) (s t : S) : Type 0 where
    pub attempts : Outcomes
    pub others : List FileName
    pub reached : S
    pub in_order : names ≡ attempted attempts ++ others
    pub in_turn : AttemptsInTurn s attempts reached
    pub ends : (t ≡ reached) ⊎ ((name : FileName) × (rest : List FileName) × (others ≡ name ∷ rest) × refuses reached name Memory t)
