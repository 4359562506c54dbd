-- The table to which the survivors of a loss lead, and the losses under which the files hold it.
use Rattle.std.specs.Prelude.{◌≡◌, ◌↔◌, List, Result}
use Rattle.cs_schema.specs.CatalogData.{CatalogData}
use Rattle.cs_schema.specs.FileNames.{FileContents}
use Rattle.cs_schema.specs.Losses.{Sites}
use Rattle.cs_schema.specs.Rows.{Row, IsTable}
use Rattle.cs_safety.specs.Safety.{IsSafe}
use Rattle.cs_safety.specs.Within.{IsWithin}
use Rattle.cs_rows.specs.Walk.{Contents, Stray}
use Rattle.cs_recovery.specs.Holding.{HoldsSurvivors}
use Rattle.cs_recovery.specs.Verdicts.{IsWalkedBy}
use Rattle.cs_rebuild.specs.OnStore.{table_on}
use Rattle.cs_diagnosis.specs.Conflicts.{AreAllHit}
use Rattle.cs_diagnosis.specs.declared.candidate.Candidate.{Candidate}
use Rattle.cs_diagnosis.specs.declared.conflicts.Conflicts.{Conflicts}

-- All conflicts of a table with the files that survive a first loss: of the losses that contain that one, exactly those
-- leave the table that contain a site of each conflict.
abbrev pub AreConflictsOf : CatalogData → FileContents → Sites → List Row → Conflicts → Type 0
AreConflictsOf C F first T k = (L : Sites) → IsWithin first L → AreAllHit k L ↔ HoldsSurvivors C F L T

-- each walk under the one loss is a walk under the other
abbrev pub AreWalkedAlike : CatalogData → Sites → Sites → Type 0
AreWalkedAlike C L M = (S : Contents) (w : Result (List Row) Stray) → IsWalkedBy C.safety C L S w → IsWalkedBy C.safety C M S w

-- a safe loss that contains a first one and has the same walk as another loss
pub record IsWalkedLike (C : CatalogData) (first L M : Sites) : Type 0 where
  pub around : IsWithin first M
  pub safe : IsSafe C M
  pub alike : AreWalkedAlike C L M

-- the walk leads to no table, so no loss with this walk is accepted
abbrev pub HasNoTable : CatalogData → FileContents → Sites → Sites → Type 0
HasNoTable C F first L = (M : Sites) (U : List Row) → IsWalkedLike C first L M → ¬ HoldsSurvivors C F M U

-- A table with all its conflicts. No loss with this walk is accepted with another table.
pub record IsCandidate (C : CatalogData) (F : FileContents) (first L : Sites) (c : Candidate) : Type 0 where
  pub catalog : c.store.catalog.now ≡ C
  pub table : IsTable C (table_on c.store)
  pub conflicts : AreConflictsOf C F first (table_on c.store) c.conflicts
  pub only : (M : Sites) (U : List Row) → IsWalkedLike C first L M → HoldsSurvivors C F M U → U ≡ table_on c.store
