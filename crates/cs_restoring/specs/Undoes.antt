-- What the verb `undo` does, by what the places and a store that can be changed say of one call.
use Rattle.std.specs.Prelude.{◌≡◌, ℕ, Bool, true, false, List, Option, Some, None}
use Rattle.cs_schema.specs.CatalogData.{CatalogData}
use Rattle.cs_schema.specs.declared.file_name.FileName.{FileName}
use Rattle.cs_store.specs.FileSet.{Files}
use Rattle.cs_shelf.specs.Shelf.{Follows}
use Rattle.cs_shelf.specs.declared.work.UndoOf.{UndoOf}
use Rattle.cs_shelf.specs.declared.work.UndoOf.TheVariants.{Last, Number, Unfinished}
use Rattle.cs_restore.specs.Undoing.{IsBack}
use Rattle.pinepolo_places.specs.Finding.{FindsStore}
use Rattle.pinepolo_answers.specs.declared.undone.Undone.{Undone}

-- Each name that had changed has what it had before, now and after a stop, and no other changed; the store was given back
-- as finished, and these files and names are the answer.
pub record EndsUndo {P K : Type 0} (gives_back : P → K → Bool → P → Type 0) (holds may_leave : K → Files → Type 0) (s : P) (C : CatalogData) (back : Files) (names : List FileName) (store : K) (t : P) (undone : Undone) : Type 0 where
  pub left : K
  pub finished : Follows (IsBack back names) (holds store) (holds left)
  pub durable : Follows (IsBack back names) (holds store) (may_leave left)
  pub given : gives_back s left true t
  pub catalog : undone.catalog ≡ C
  pub files : undone.undoable.back ≡ back
  pub changed : undone.undoable.names.items ≡ names

-- which work a request asks to undo: that of which an undo is not finished, that of the number that it gives, or the last
abbrev pub undo_asked : Bool → Option ℕ → UndoOf
undo_asked true kept = Unfinished
undo_asked false (Some number) = Number number
undo_asked false None = Last

-- the store at this path was found, and taken for the undo of this work, which was done
pub record DoesUndo {P S K : Type 0} (reads : P → List ℕ → List ℕ → P → Type 0) (opens : P → List ℕ → CatalogData → S → Type 0) (takes_undo : P → List ℕ → CatalogData → UndoOf → Files → List FileName → K → P → Type 0) (gives_back : P → K → Bool → P → Type 0) (holds may_leave : K → Files → Type 0) (s : P) (path : List ℕ) (asked : UndoOf) (t : P) (undone : Undone) : Type 0 where
  pub catalog : CatalogData
  pub found : P
  pub source : S
  pub finds : FindsStore reads opens s path catalog source found
  pub back : Files
  pub names : List FileName
  pub store : K
  pub taken : P
  pub takes : takes_undo found path catalog asked back names store taken
  pub ends : EndsUndo gives_back holds may_leave taken catalog back names store t undone
