-- Bad files of a catalog.
use Rattle.std.specs.Coded.{Coded-set, Π_prop, →_prop, ×_prop, coded_bool, le_prop}
use Rattle.std.specs.Prelude.{List, true}
use Rattle.cs_schema.specs.CatalogData.{CatalogData, has_join}
use Rattle.cs_schema.specs.FileNames.{HasName}
use Rattle.cs_schema.specs.Lists.{IsIn}
use Rattle.cs_schema.specs.declared.file_name.FileName.{FileName}
use Rattle.cs_inspection.specs.declared.badness.Badness.{Badness}

-- the catalog has each of these files
abbrev pub AreNamed : CatalogData → List (FileName × Badness) → Type 0
AreNamed C bad = (b : FileName × Badness) → IsIn b bad → HasName C b.0

HasName-prop : (C : CatalogData) (n : FileName) → IsProp (HasName C n)
HasName-prop C (FileName.Seg p s) = ×_prop le_prop le_prop
HasName-prop C (FileName.Del p s) = ×_prop le_prop le_prop
HasName-prop C (FileName.Jix p s q) = ×_prop (×_prop le_prop le_prop) (Coded-set coded_bool (has_join C p q) true)

-- two proofs of it are equal
pub AreNamed-prop : (C : CatalogData) (bad : List (FileName × Badness)) → IsProp (AreNamed C bad)
AreNamed-prop C bad = Π_prop (λ b. →_prop (HasName-prop C b.0))
