-- Files that hold a table, or the part of it that survives a loss.
use Rattle.std.specs.Prelude.{◌≡◌, ℕ, ◌==◌, nat_le, Bool, not, ◌&&◌, if◌then◌else◌, List, [], map, IsTrue}
use lib.Pointwise.{pointwise}
use Rattle.cs_schema.specs.declared.file_name.FileName.{FileName}
use Rattle.cs_schema.specs.CatalogData.{CatalogData}
use Rattle.cs_schema.specs.Losses.{lost, Sites}
use Rattle.cs_schema.specs.Rows.{Row, project, IsTable}
use Rattle.cs_schema.specs.FileNames.{FileContents, Survives}
use Rattle.cs_schema.specs.Order.{rows_of, Fits}
use Rattle.cs_delta.specs.Image.{image_rows}
use Rattle.cs_jix.specs.JoinIndex.{Place}
use Rattle.cs_rows.specs.Walk.{Contents}
use Rattle.cs_recovery.specs.Contents.{Reads}
use Rattle.cs_recovery.specs.Places.{entries_for}

-- an entry agrees with a place; in a lost segment, every key does
abbrev pub agrees : CatalogData → Sites → ℕ → Place → Place → Bool
agrees C L q e place = (e.0 == place.0) && (if lost C L q place.0 && not (place.1 == 0) then nat_le 1 e.1 else (e.1 == place.1))

-- the contents of surviving segments are those of the table
pub record AreContentsOf (C : CatalogData) (L : Sites) (S : Contents) (T : List Row) : Type 0 where
  pub images : (p s : ℕ) → Survives C L (FileName.Seg p s) → image_rows (S.image p s) ≡ map (project C p) (rows_of C T p s)
  pub joins : (p s q : ℕ) → Survives C L (FileName.Jix p s q) → IsTrue (pointwise (agrees C L q) (S.join p s q) (entries_for C L S T p s q))

-- The files that survive a loss hold a table.
pub record HoldsSurvivors (C : CatalogData) (F : FileContents) (L : Sites) (T : List Row) : Type 0 where
  pub table : IsTable C T
  pub fits : Fits C T
  pub contents : Contents
  pub reads : Reads C F L contents
  pub same : AreContentsOf C L contents T

-- The files hold a table, and none is lost.
abbrev pub Holds : CatalogData → FileContents → List Row → Type 0
Holds C F T = HoldsSurvivors C F [] T
