-- Laws about conflicts; each is the contract of a function of src/conflict_laws.rt.
use Rattle.std.specs.Prelude.{◌↔◌, List}
use Rattle.cs_schema.specs.CatalogData.{CatalogData}
use Rattle.cs_schema.specs.CatalogRules.{IsCatalog}
use Rattle.cs_schema.specs.FileNames.{FileContents}
use Rattle.cs_schema.specs.Losses.{Sites, IsLoss}
use Rattle.cs_schema.specs.Order.{Fits}
use Rattle.cs_schema.specs.Rows.{Row, IsTable}
use Rattle.cs_safety.specs.Safety.{IsSafe}
use Rattle.cs_safety.specs.Within.{IsWithin}
use Rattle.cs_recovery.specs.Conflicts.{HitsConflicts, AreRead}
use Rattle.cs_diagnosis.specs.Candidates.{AreConflictsOf}
use Rattle.cs_diagnosis.specs.Conflicts.{AreAllHit}
use Rattle.cs_diagnosis.specs.declared.conflicts.Conflicts.{Conflicts}

-- Of the safe losses that contain a first one, those that contain a site of each stored conflict of a table are those
-- that contain a site of each conflict of the table.
abbrev pub KeptConflictsAreConflicts : Type 0
KeptConflictsAreConflicts =
    (C : CatalogData) → IsCatalog C → (F : FileContents) (first : Sites) (T : List Row) (k : Conflicts) → IsTable C T → Fits C T → AreRead C F → AreConflictsOf C F first T k
    → (L : Sites) → IsWithin first L → IsLoss C L → IsSafe C L → AreAllHit k L ↔ HitsConflicts C F T L
