-- What a save does: puts in turn, then the mark, each by what the sink says of one call.
use Rattle.std.specs.Prelude.{◌≡◌, ℕ, List, [], ◌∷◌, ◌++◌, length, Option, None, Some}
use Rattle.cs_schema.specs.declared.file_name.FileName.{FileName}
use Rattle.cs_store.specs.declared.fault.StoreFault.{StoreFault}
use Rattle.cs_store.specs.declared.fault.StoreFault.TheVariants as cause
use Rattle.cs_store.specs.declared.fault.Fault.{Fault}
use Rattle.cs_store.specs.declared.fault.Fault.TheVariants as fault

-- files with their bytes, in the order in which they are put
abbrev pub Puts : Type 0
Puts = List (FileName × List ℕ)

-- the name of the first file, or none where only the mark is left
abbrev pub next_name : Puts → Option FileName
next_name [] = None
next_name (file ∷ rest) = Some file.0

-- how a save answers a refusal at this file, or at the mark
abbrev pub refusal : Option FileName → StoreFault → Fault
refusal at cause.Memory = fault.Memory
refusal at cause.Device = fault.Write at

module _ {S : Type 0} (takes : S → FileName → List ℕ → S → Type 0) where
  -- from state s to state t, one put after the other was taken whole
  abbrev pub PutsInTurn : S → Puts → S → Type 0
  PutsInTurn s [] t = t ≡ s
  PutsInTurn s (file ∷ rest) t = (u : S) × takes s file.0 file.1 u × PutsInTurn u rest t

  -- every file was put, in order, and then the mark was set with their number
  pub record Saves (marks : S → ℕ → S → Type 0) (files : Puts) (s t : S) : Type 0 where
    pub reached : S
    pub in_turn : PutsInTurn s files reached
    pub marked : marks reached (length files) t

  -- The files in `saved` were put, in order, and the very next call was refused: the put of the first
  -- one left, or the mark where none is left. So no mark was set.
  pub record StopsSaving (refuses : S → Option FileName → StoreFault → S → Type 0) (files : Puts) (s : S) (answer : Fault) (t : S) : Type 0 where
    pub saved : Puts
    pub left : Puts
    pub reached : S
    pub cause : StoreFault
    pub in_order : files ≡ saved ++ left
    pub in_turn : PutsInTurn s saved reached
    pub refused : refuses reached (next_name left) cause t
    pub named : answer ≡ refusal (next_name left) cause
