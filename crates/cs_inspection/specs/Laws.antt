-- Laws about bad files; each is the contract of a function of src/laws.rt.
use Rattle.std.specs.Prelude.{◌≡◌, List, IsTrue, None}
use Rattle.cs_schema.specs.declared.file_name.FileName.{FileName}
use Rattle.cs_schema.specs.Lists.{member, IsIn}
use Rattle.cs_schema.specs.CatalogData.{CatalogData}
use Rattle.cs_schema.specs.CatalogRules.{IsCatalog}
use Rattle.cs_schema.specs.Losses.{Sites}
use Rattle.cs_schema.specs.Rows.{Row}
use Rattle.cs_schema.specs.FileNames.{FileContents, HasName}
use Rattle.cs_recovery.specs.AcceptedLosses.{IsAcceptedLoss}
use Rattle.cs_recovery.specs.Conflicts.{site_of, AreRead}
use Rattle.cs_recovery.specs.Verdicts.{IsSound}
use Rattle.cs_inspection.specs.declared.badness.Badness.{Badness}
use Rattle.cs_inspection.specs.BadFiles.{IsBad, IsGood, AreBadFiles}

-- there is no file under an unreadable name
abbrev pub AreAbsent : FileContents → List FileName → Type 0
AreAbsent F unreadable = (n : FileName) → IsIn n unreadable → F n ≡ None

-- no file is both good and bad, and a bad one is bad for one reason
abbrev pub FilesHaveOneState : Type 0
FilesHaveOneState =
    (C : CatalogData) → IsCatalog C → (F : FileContents) (unreadable : List FileName) (n : FileName) (why : Badness) → HasName C n → IsBad C F unreadable n why
    → (¬ IsGood C F unreadable n) × ((other : Badness) → IsBad C F unreadable n other → other ≡ why)

-- a bad file is not sound
abbrev pub BadFilesAreUnsound : Type 0
BadFilesAreUnsound =
    (C : CatalogData) → IsCatalog C → (F : FileContents) (unreadable : List FileName) → AreAbsent F unreadable
    → (n : FileName) (why : Badness) → HasName C n → IsBad C F unreadable n why → ¬ IsSound C F n

-- a sound file is good
abbrev pub SoundFilesAreGood : Type 0
SoundFilesAreGood =
    (C : CatalogData) → IsCatalog C → (F : FileContents) (unreadable : List FileName) → AreAbsent F unreadable
    → (n : FileName) → HasName C n → IsSound C F n → IsGood C F unreadable n

-- the list of bad files determines, for each file, whether it is sound
abbrev pub BadFilesTellSoundOnes : Type 0
BadFilesTellSoundOnes =
    (C : CatalogData) → IsCatalog C → (F : FileContents) (unreadable : List FileName) (bad : List (FileName × Badness)) → AreAbsent F unreadable → AreBadFiles C F unreadable bad → AreRead C F

-- every accepted loss contains the site of every bad file
abbrev pub BadSitesAreForced : Type 0
BadSitesAreForced =
    (C : CatalogData) → IsCatalog C → (F : FileContents) (unreadable : List FileName) → AreAbsent F unreadable
    → (n : FileName) (why : Badness) → HasName C n → IsBad C F unreadable n why → (L : Sites) (T : List Row) → IsAcceptedLoss C F L T → IsTrue (member L (site_of C n))
