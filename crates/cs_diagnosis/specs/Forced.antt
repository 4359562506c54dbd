-- The sites of bad files.
use Rattle.std.specs.Prelude.{◌≡◌, ◌↔◌, ℕ, List, None, IsTrue}
use Rattle.cs_schema.specs.declared.file_name.FileName.{FileName}
use Rattle.cs_schema.specs.CatalogData.{CatalogData}
use Rattle.cs_schema.specs.FileNames.{FileContents, HasName}
use Rattle.cs_schema.specs.Lists.{member, IsIn}
use Rattle.cs_schema.specs.Losses.{Sites}
use Rattle.cs_recovery.specs.Conflicts.{site_of}
use Rattle.cs_inspection.specs.BadFiles.{AreBadFiles}
use Rattle.cs_inspection.specs.Laws.{AreAbsent}
use Rattle.cs_inspection.specs.declared.badness.Badness.{Badness}

-- the site has a bad file
abbrev pub IsBadSite : CatalogData → List (FileName × Badness) → ℕ → Type 0
IsBadSite C bad x = (b : FileName × Badness) × IsIn b bad × (x ≡ site_of C b.0)

-- the bad files of a store, and their sites; there is no file under an unreadable name
pub record AreTold (C : CatalogData) (F : FileContents) (unreadable : List FileName) (bad : List (FileName × Badness)) (sites : Sites) : Type 0 where
  pub absent : AreAbsent F unreadable
  pub list : AreBadFiles C F unreadable bad
  pub sites_are : (x : ℕ) → IsTrue (member sites x) ↔ IsBadSite C bad x

-- each of these sites lacks a file
abbrev pub LacksFileOn : CatalogData → FileContents → Sites → Type 0
LacksFileOn C F sites = (x : ℕ) → IsTrue (member sites x) → (n : FileName) × HasName C n × (F n ≡ None) × (x ≡ site_of C n)
