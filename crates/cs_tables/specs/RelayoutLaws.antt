-- Laws on tables laid out anew, each the contract of a function of src/laws.rt.
use Rattle.std.specs.Prelude.{◌≡◌, ℕ, List, map, None, Some, Result, Ok, Err}
use Rattle.cs_schema.specs.CatalogData.{CatalogData}
use Rattle.cs_schema.specs.CatalogRules.{IsCatalog}
use Rattle.cs_schema.specs.FileNames.{FileContents}
use Rattle.cs_schema.specs.Losses.{Sites, IsLoss}
use Rattle.cs_schema.specs.Order.{Fits}
use Rattle.cs_schema.specs.Rows.{Row, IsTable}
use Rattle.cs_store.specs.FileSet.{contents_of}
use Rattle.cs_safety.specs.Safety.{IsSafe}
use Rattle.cs_tables.specs.Dumping.{IsTableText}
use Rattle.cs_tables.specs.Loading.{LoadsTable}
use Rattle.cs_tables.specs.declared.loading.Loaded.{Loaded}
use Rattle.cs_recovery.specs.Holding.{Holds, HoldsSurvivors}
use Rattle.cs_tables.specs.ByName.{by_name}
use Rattle.cs_tables.specs.Differences.{first_difference}
use Rattle.cs_tables.specs.Relayout.{LaysOut, MayFollow}
use Rattle.cs_tables.specs.declared.relayout_fault.RelayoutFault.{RelayoutFault}
use Rattle.cs_tables.specs.declared.relayout_fault.RelayoutFault.TheVariants as fault
use Rattle.cs_tables.specs.declared.laying.Relaid.{Relaid}

-- a table laid out under another catalog is one of that, and laid out under its own again it is the same
pub record ComesBack (old new : CatalogData) (T : List Row) : Type 0 where
  pub table : IsTable new (map (by_name old new) T)
  pub back : map (by_name new old) (map (by_name old new) T) ≡ T

abbrev pub TablesComeBack : Type 0
TablesComeBack = (old new : CatalogData) → IsCatalog old → IsCatalog new → first_difference old new ≡ None → (T : List Row) → IsTable old T → ComesBack old new T

-- files that hold a table, or want of memory
abbrev pub IsHeldOrMemory : CatalogData → List Row → Result Relaid RelayoutFault → Type 0
IsHeldOrMemory C T (Ok relaid) = Holds C (contents_of relaid.files) T
IsHeldOrMemory C T (Err f) = f ≡ fault.Memory

-- where the survivors of a safe loss hold a table, and the new catalog has room for it, no answer refuses it
abbrev pub SurvivorsAreLaidOut : Type 0
SurvivorsAreLaidOut =
    (old new : CatalogData) → IsCatalog old → IsCatalog new → MayFollow old new → (F : FileContents) (L : Sites) (T : List Row) → IsLoss old L → IsSafe old L → HoldsSurvivors old F L T
    → Fits new (map (by_name old new) T) → (r : Result Relaid RelayoutFault) → LaysOut old F L new r → IsHeldOrMemory new (map (by_name old new) T) r

-- files that are loaded from the dump of what survives a loss hold the table that survived
abbrev pub DumpsLoadBack : Type 0
DumpsLoadBack =
    (C : CatalogData) → IsCatalog C → (F : FileContents) (L : Sites) (T : List Row) (text : List ℕ) (loaded : Loaded)
    → HoldsSurvivors C F L T → IsTableText C F L text → LoadsTable C (Some text) (Ok loaded) → Holds C (contents_of loaded.files) T
