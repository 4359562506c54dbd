-- What a load does: reads in turn, each by what the source says of one read.
use Rattle.std.specs.Prelude.{◌≡◌, ◌⊎◌, ℕ, List, [], ◌∷◌, ◌++◌, map, Option, None, Some}
use Rattle.std.specs.FinMap.{entries}
use Rattle.cs_schema.specs.declared.file_name.FileName.{FileName}
use Rattle.cs_store.specs.FileSet.{Files}
use Rattle.cs_store.specs.declared.fault.StoreFault.{StoreFault}
use Rattle.cs_store.specs.declared.fault.StoreFault.TheVariants.{Device}
use Rattle.cs_store.specs.declared.fault.Fault.{Fault}
use Rattle.cs_store.specs.declared.fault.Fault.TheVariants.{Read}

-- the names that were read, each with what its read gave: the bytes, or that there is no such file
abbrev pub Answers : Type 0
Answers = List (FileName × Option (List ℕ))

abbrev pub names_of : Answers → List FileName
names_of answers = map (λ answer. answer.0) answers

-- the answers that gave a file
abbrev pub present : Answers → List (FileName × List ℕ)
present [] = []
present ((name, None) ∷ rest) = present rest
present ((name, Some bytes) ∷ rest) = (name, bytes) ∷ present rest

module _ {S : Type 0} (gives : S → FileName → Option (List ℕ) → S → Type 0) where
  -- from state s to state t, one read after the other gave these answers
  abbrev pub ReadsInTurn : S → Answers → S → Type 0
  ReadsInTurn s [] t = t ≡ s
  ReadsInTurn s (answer ∷ rest) t = (u : S) × gives s answer.0 answer.1 u × ReadsInTurn u rest t

  -- the read of the first of these names was refused
  pub record RefusesNext (refuses : S → FileName → StoreFault → S → Type 0) (names : List FileName) (s t : S) : Type 0 where
    pub name : FileName
    pub others : List FileName
    pub why : StoreFault
    pub first : names ≡ name ∷ others
    pub refused : refuses s name why t

  -- each name was read, in order, and the files are just those that were there
  pub record Loads (names : List FileName) (s : S) (files : Files) (t : S) : Type 0 where
    pub answers : Answers
    pub in_order : names_of answers ≡ names
    pub in_turn : ReadsInTurn s answers t
    pub just_these : entries files ≡ present answers

  -- the names before this one were read, in order, and then the device refused its read
  pub record StopsLoading (refuses : S → FileName → StoreFault → S → Type 0) (names : List FileName) (s : S) (fault : Fault) (t : S) : Type 0 where
    pub answers : Answers
    pub name : FileName
    pub others : List FileName
    pub reached : S
    pub in_order : names ≡ names_of answers ++ name ∷ others
    pub in_turn : ReadsInTurn s answers reached
    pub refused : refuses reached name Device t
    pub named : fault ≡ Read name

  -- A load ended, whatever it answered: some names were read, in order, and then at most the read of the next was refused.
  pub record ReadsSome (refuses : S → FileName → StoreFault → S → Type 0) (names : List FileName) (s t : S) : Type 0 where
    pub answers : Answers
    pub others : List FileName
    pub reached : S
    pub in_order : names ≡ names_of answers ++ others
    pub in_turn : ReadsInTurn s answers reached
    pub ends : (t ≡ reached) ⊎ RefusesNext refuses others reached t
