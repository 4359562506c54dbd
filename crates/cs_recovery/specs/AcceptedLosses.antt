-- Losses that a store accepts, and files that were changed on some sites.
use Rattle.std.specs.Prelude.{List}
use Rattle.cs_schema.specs.CatalogData.{CatalogData}
use Rattle.cs_schema.specs.FileNames.{FileContents}
use Rattle.cs_schema.specs.Losses.{Sites, IsLoss}
use Rattle.cs_schema.specs.Rows.{Row}
use Rattle.cs_safety.specs.Safety.{IsSafe}
use Rattle.cs_recovery.specs.Holding.{HoldsSurvivors, Holds}
use Rattle.cs_recovery.specs.Claims.{SameSurvivors}

-- A loss is accepted with a table if it is a safe loss of the catalog's sites and the files that survive it hold the
-- table.
pub record IsAcceptedLoss (C : CatalogData) (F : FileContents) (L : Sites) (T : List Row) : Type 0 where
  pub loss : IsLoss C L
  pub safe : IsSafe C L
  pub holds : HoldsSurvivors C F L T

-- files that held a table were changed: in any way under the names of these sites, and under no other name
pub record AreChangedOn (C : CatalogData) (F G : FileContents) (B : Sites) (T : List Row) : Type 0 where
  pub held : Holds C F T
  pub sites : IsLoss C B
  pub others : SameSurvivors C B F G
