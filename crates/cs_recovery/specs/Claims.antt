-- The clauses of `rebuild` and `check`.
use Rattle.std.specs.Prelude.{◌≡◌, ℕ, ◌≤◌, List, length, Result, Ok, Err}
use Rattle.std.specs.Option.{option_or}
use Rattle.cs_store.specs.declared.fault.Fault.{Fault}
use Rattle.cs_schema.specs.CatalogData.{CatalogData}
use Rattle.cs_schema.specs.FileNames.{FileContents, Survives}
use Rattle.cs_schema.specs.Rows.{Row}
use Rattle.cs_schema.specs.Losses.{Sites}
use Rattle.cs_safety.specs.Safety.{IsKSafe}
use Rattle.cs_recovery.specs.Holding.{Holds}
use Rattle.cs_recovery.specs.Expected.{AreExpected}
use Rattle.cs_recovery.specs.Verdicts.{IsRebuildVerdict, IsCheckVerdict}
use Rattle.cs_store.specs.FileSet.{Files, contents_of}
use Rattle.cs_store.specs.Fault.{MemoryOr}

-- An answer of `rebuild`: the files that recover the table of the verdict, the fault of the verdict, or out of memory.
abbrev pub IsRebuildAnswer : CatalogData → FileContents → Sites → Result Files Fault → Type 0
IsRebuildAnswer C F L (Ok out) = (T : List Row) × IsRebuildVerdict C F L (Ok T) × AreExpected C F L T (contents_of out)
IsRebuildAnswer C F L (Err e) = MemoryOr e (IsRebuildVerdict C F L (Err e))

-- An answer of `check`: the number of rows of the verdict's table, the fault of the verdict, or out of memory.
abbrev pub IsCheckAnswer : CatalogData → FileContents → ℕ → Result ℕ Fault → Type 0
IsCheckAnswer C F k (Ok n) = (T : List Row) × IsCheckVerdict C F k (Ok T) × (n ≡ length T)
IsCheckAnswer C F k (Err e) = MemoryOr e (IsCheckVerdict C F k (Err e))

-- out of memory, or exactly the files that recover the table
abbrev pub IsRecovered : CatalogData → FileContents → Sites → List Row → Result Files Fault → Type 0
IsRecovered C F L T (Ok out) = AreExpected C F L T (contents_of out)
IsRecovered C F L T (Err e) = e ≡ Fault.Memory

-- What `check` accepts: the files hold the table, and the catalog is safe for losses of at most k sites.
pub record IsAccepted (C : CatalogData) (F : FileContents) (k : ℕ) (T : List Row) : Type 0 where
  pub limit : k ≤ 3
  pub safe : IsKSafe C k
  pub holds : Holds C F T

-- this table and no other
abbrev pub IsOnlyTable : (List Row → Type 0) → List Row → Type 0
IsOnlyTable P T = P T × ((U : List Row) → P U → U ≡ T)

-- the two have the same bytes under each surviving name
abbrev pub SameSurvivors : CatalogData → Sites → FileContents → FileContents → Type 0
SameSurvivors C L F G = (n : _) → Survives C L n → G n ≡ F n

-- the first files, and under all other names the second
abbrev pub put_over : FileContents → FileContents → FileContents
put_over out F n = option_or (out n) (F n)
