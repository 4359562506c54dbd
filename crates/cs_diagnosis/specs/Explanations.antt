-- Accepted losses, and the minimal ones among them, which explain a store.
use Rattle.std.specs.Prelude.{◌≡◌, List}
use Rattle.cs_schema.specs.CatalogData.{CatalogData}
use Rattle.cs_schema.specs.Losses.{Sites, IsLoss}
use Rattle.cs_schema.specs.Rows.{Row}
use Rattle.cs_safety.specs.Safety.{IsSafe}
use Rattle.cs_safety.specs.Within.{IsWithin}

-- a safe loss of the catalog's sites that leaves a table
pub record IsAccepted (C : CatalogData) (held : Sites → List Row → Type 0) (L : Sites) (T : List Row) : Type 0 where
  pub loss : IsLoss C L
  pub safe : IsSafe C L
  pub holds : held L T

-- an accepted loss that contains no other accepted one
pub record IsLeastAccepted (C : CatalogData) (held : Sites → List Row → Type 0) (L : Sites) (T : List Row) : Type 0 where
  pub accepted : IsAccepted C held L T
  pub least : (M : Sites) (U : List Row) → IsAccepted C held M U → IsWithin M L → M ≡ L

-- every accepted loss contains these sites
abbrev pub AreForced : CatalogData → (Sites → List Row → Type 0) → Sites → Type 0
AreForced C held forced = (L : Sites) (T : List Row) → IsAccepted C held L T → IsWithin forced L

-- an accepted loss leaves only one table
abbrev pub HaveOneTable : CatalogData → (Sites → List Row → Type 0) → Type 0
HaveOneTable C held = (L : Sites) (T U : List Row) → IsAccepted C held L T → IsAccepted C held L U → T ≡ U

-- a safe loss that contains an accepted one is accepted with its table
abbrev pub AcceptanceGrows : CatalogData → (Sites → List Row → Type 0) → Type 0
AcceptanceGrows C held = (L M : Sites) (T : List Row) → IsAccepted C held L T → IsWithin L M → IsLoss C M → IsSafe C M → IsAccepted C held M T
