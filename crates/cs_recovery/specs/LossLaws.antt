-- Laws about the losses that a store accepts; each is the contract of a function of src/loss_laws.rt.
use Rattle.std.specs.Prelude.{◌≡◌, ℕ, ◌+◌, ◌*◌, ◌≤◌, List, length}
use Rattle.cs_schema.specs.declared.kinds.Safety.{Safety}
use Rattle.cs_schema.specs.CatalogData.{CatalogData}
use Rattle.cs_schema.specs.CatalogRules.{IsCatalog}
use Rattle.cs_schema.specs.FileNames.{FileContents}
use Rattle.cs_schema.specs.Losses.{Sites, IsLoss}
use Rattle.cs_schema.specs.Order.{Fits}
use Rattle.cs_schema.specs.Rows.{Row, IsTable}
use Rattle.cs_safety.specs.Safety.{IsSafe, IsSafeBy, IsKSafe}
use Rattle.cs_safety.specs.Within.{IsWithin}
use Rattle.cs_recovery.specs.Holding.{HoldsSurvivors, Holds}
use Rattle.cs_recovery.specs.Claims.{IsOnlyTable, SameSurvivors}
use Rattle.cs_recovery.specs.AcceptedLosses.{IsAcceptedLoss, AreChangedOn}
use Rattle.cs_recovery.specs.Conflicts.{HitsConflicts, AreRead}

-- a table that the survivors of a loss hold is held by those of a larger loss, whatever became of the other files
abbrev pub FewerSurvivorsHold : Type 0
FewerSurvivorsHold =
    (C : CatalogData) → IsCatalog C → (F G : FileContents) (L M : Sites) (T : List Row)
    → IsWithin L M → SameSurvivors C M F G → HoldsSurvivors C F L T → HoldsSurvivors C G M T

-- a safe loss that contains an accepted one is accepted, with its table and no other
abbrev pub AcceptanceGrows : Type 0
AcceptanceGrows =
    (C : CatalogData) → IsCatalog C → (F : FileContents) (L M : Sites) (T : List Row)
    → IsAcceptedLoss C F L T → IsWithin L M → IsLoss C M → IsSafe C M → IsOnlyTable (IsAcceptedLoss C F M) T

-- If two losses are contained in a loss that is safe by either rule, both leave the same table. This holds of two
-- stores too, if they have the same files outside the safe loss.
abbrev pub OneTableIsHeld : Type 0
OneTableIsHeld =
    (C : CatalogData) → IsCatalog C → (rule : Safety) (F G : FileContents) (L M N : Sites) (T U : List Row)
    → IsWithin L N → IsWithin M N → IsSafeBy rule C N → SameSurvivors C N F G → HoldsSurvivors C F L T → HoldsSurvivors C G M U → T ≡ U

-- files that were changed on at most k sites hold the table that they held, or none
abbrev pub ChangedSitesAreDetected : Type 0
ChangedSitesAreDetected =
    (C : CatalogData) → IsCatalog C → (F G : FileContents) (B : Sites) (k : ℕ) (T : List Row)
    → IsKSafe C k → AreChangedOn C F G B T → length B ≤ k → (U : List Row) → Holds C G U → U ≡ T

-- Errors and erasures: the loss of the changed sites is accepted with the table if it is safe, and no loss is accepted
-- with another table if a safe loss contains both. So let each loss of at most k sites be safe, let some sites be known
-- to be lost, and let at most m others have been changed. If the number of known sites plus 2m is at most k, each
-- accepted loss of the known sites and at most m others leaves the table.
pub record AreCorrected (C : CatalogData) (G : FileContents) (B : Sites) (T : List Row) : Type 0 where
  pub changed : IsSafe C B → IsAcceptedLoss C G B T
  pub within : (M N : Sites) (U : List Row) → IsAcceptedLoss C G M U → IsWithin B N → IsWithin M N → IsSafe C N → U ≡ T
  pub counted : (known : Sites) (k m : ℕ) → IsKSafe C k → IsLoss C known → IsWithin known B → length B ≤ length known + m → length known + 2 * m ≤ k
      → IsAcceptedLoss C G B T × ((M : Sites) (U : List Row) → IsAcceptedLoss C G M U → IsWithin known M → length M ≤ length known + m → U ≡ T)

abbrev pub ChangedSitesAreCorrected : Type 0
ChangedSitesAreCorrected = (C : CatalogData) → IsCatalog C → (F G : FileContents) (B : Sites) (T : List Row) → AreChangedOn C F G B T → AreCorrected C G B T

-- The losses that are accepted with a table are the safe ones that contain a site of each conflict. That an accepted
-- loss contains these needs no reading; the converse needs to know of each file whether it is sound.
abbrev pub AcceptedLossesHitConflicts : Type 0
AcceptedLossesHitConflicts =
    (C : CatalogData) → IsCatalog C → (F : FileContents) (L : Sites) (T : List Row)
    → (IsAcceptedLoss C F L T → HitsConflicts C F T L)
    × (IsTable C T → Fits C T → IsLoss C L → IsSafe C L → AreRead C F → HitsConflicts C F T L → IsAcceptedLoss C F L T)
