-- Files of a set that are put in place, in part or whole.
use Rattle.std.specs.Prelude.{◌≡◌, ◌⊎◌, ℕ, List, ◌∷◌, [], ◌++◌, Some}
use Rattle.cs_schema.specs.declared.file_name.FileName.{FileName}
use Rattle.cs_store.specs.FileSet.{Files, contents_of}
use Rattle.cs_shelf.specs.Shelf.{IsAmong}
use Rattle.cs_recovery.specs.Claims.{put_over}
use Rattle.cs_restore.specs.declared.step.Step.{Step}
use Rattle.cs_restore.specs.declared.step.What.TheVariants.{Same}

-- what is to stand under a name stands there: the set's bytes, or what stood there
abbrev pub IsThere : Files → Files → FileName → Type 0
IsThere out d n = put_over (contents_of out) (contents_of d) n ≡ contents_of d n

-- under all names but these the set's bytes stand already
abbrev pub OthersAreThere : Files → List FileName → (Files → Type 0) → Type 0
OthersAreThere out names held = (d : Files) → held d → (n : FileName) → IsAmong names n ⊎ IsThere out d n

-- what the set has under a name is what was read there
abbrev pub WasRead : Files → Files → FileName → Type 0
WasRead out read n = (bytes : List ℕ) → contents_of out n ≡ Some bytes → contents_of read n ≡ Some bytes

-- the set has bytes under a name, and they were read there
abbrev pub IsReadAsAnswered : Files → Files → FileName → Type 0
IsReadAsAnswered out read n = (bytes : List ℕ) × (contents_of out n ≡ Some bytes) × (contents_of read n ≡ Some bytes)

-- under all names but these the set's bytes were read
abbrev pub OthersWereRead : Files → List FileName → Files → Type 0
OthersWereRead out names read = (n : FileName) → IsAmong names n ⊎ WasRead out read n

-- a name joined the changes, or its bytes stand there
abbrev pub AddsStep : Step → List FileName → List FileName → Type 0
AddsStep step old new = (new ≡ old ++ step.name ∷ []) ⊎ ((new ≡ old) × (step.what ≡ Same))

-- each name has what it had, or the set's bytes
abbrev pub IsPartOf : Files → Files → Files → Type 0
IsPartOf out d c = (n : FileName) → (contents_of c n ≡ contents_of d n) ⊎ (contents_of c n ≡ put_over (contents_of out) (contents_of d) n)

-- each name of the set has its bytes, and no other changed
abbrev pub IsPutOver : Files → Files → Files → Type 0
IsPutOver out d c = (n : FileName) → contents_of c n ≡ put_over (contents_of out) (contents_of d) n

-- the name has the set's bytes, and no other changed
pub record HasOne (out : Files) (name : FileName) (d c : Files) : Type 0 where
  pub here : contents_of c name ≡ put_over (contents_of out) (contents_of d) name
  pub others : (n : FileName) → (contents_of c n ≡ contents_of d n) ⊎ (n ≡ name)

-- the name has what it had or the set's bytes, and no other changed
abbrev pub MayHaveOne : Files → FileName → Files → Files → Type 0
MayHaveOne out name d c = ((n : FileName) → contents_of c n ≡ contents_of d n) ⊎ HasOne out name d c

-- a part, and none but these names changed
pub record TouchesOnly (out : Files) (names : List FileName) (d c : Files) : Type 0 where
  pub part : IsPartOf out d c
  pub touched : (n : FileName) → (contents_of c n ≡ contents_of d n) ⊎ IsAmong names n

-- what a stop may leave of a set that is put over one of these
abbrev pub IsPartOver : Files → (Files → Type 0) → Files → Type 0
IsPartOver out old c = (d : Files) × old d × IsPartOf out d c

-- what a stop might have left before, or may leave of a set that is put over what is held
abbrev pub IsOldOrPartOver : Files → (Files → Type 0) → (Files → Type 0) → Files → Type 0
IsOldOrPartOver out held left c = left c ⊎ IsPartOver out held c
