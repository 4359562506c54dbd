-- Laws about answers to repeated calls; each is the contract of a function of src/answer_laws.rt.
use Rattle.std.specs.Prelude.{◌≡◌, ℕ, ◌≤◌, ◌⊎◌, List, length, Result, Ok, Err, IfOk}
use Rattle.cs_store.specs.declared.fault.Fault.{Fault}
use Rattle.cs_schema.specs.CatalogData.{CatalogData}
use Rattle.cs_schema.specs.CatalogRules.{IsCatalog}
use Rattle.cs_schema.specs.FileNames.{FileContents, Survives}
use Rattle.cs_schema.specs.Losses.{Sites, IsLoss}
use Rattle.cs_schema.specs.Rows.{Row}
use Rattle.cs_recovery.specs.Holding.{HoldsSurvivors, Holds}
use Rattle.cs_recovery.specs.Expected.{AreExpected}
use Rattle.cs_recovery.specs.Claims.{IsAccepted, IsOnlyTable, SameSurvivors, IsRebuildAnswer, IsCheckAnswer, IsRecovered, put_over}
use Rattle.cs_store.specs.FileSet.{Files, contents_of}

-- out of memory, or this answer
abbrev pub IsOrMemory : Result Files Fault → Result Files Fault → Type 0
IsOrMemory s r = (r ≡ s) ⊎ (r ≡ Err Fault.Memory)

-- Two answers on files that agree under the surviving names are the same, unless memory runs out: the same fault with
-- the same values, or the same names with the same bytes.
abbrev pub OneAnswer : Type 0
OneAnswer =
    (C : CatalogData) → IsCatalog C → (F G : FileContents) (L : Sites) (r s : Result Files Fault)
    → SameSurvivors C L F G → IsRebuildAnswer C F L r → IsRebuildAnswer C G L s → IsOrMemory s r ⊎ (s ≡ Err Fault.Memory)

-- Some files of an answer were put in place: under each surviving name is the file that was there, or the one that was
-- put over it. Under the other names may be anything.
abbrev pub IsPartlyWritten : CatalogData → Sites → FileContents → FileContents → FileContents → Type 0
IsPartlyWritten C L out F G = (n : _) → Survives C L n → (G n ≡ F n) ⊎ (G n ≡ put_over out F n)

-- if some of the expected files were written, the files still hold the table, and the same files are expected
abbrev pub PartlyWrittenHolds : Type 0
PartlyWrittenHolds =
    (C : CatalogData) → IsCatalog C → (F G : FileContents) (L : Sites) (T : List Row) (out : FileContents)
    → HoldsSurvivors C F L T → AreExpected C F L T out → IsPartlyWritten C L out F G → HoldsSurvivors C G L T × AreExpected C G L T out

-- if some files of an answer were written, it still is the answer, and the only one unless memory runs out
abbrev pub RestartAnswersTheSame : Type 0
RestartAnswersTheSame =
    (C : CatalogData) → IsCatalog C → (F G : FileContents) (L : Sites) (out : Files)
    → IsRebuildAnswer C F L (Ok out) → IsPartlyWritten C L (contents_of out) F G
    → IsRebuildAnswer C G L (Ok out) × ((r : Result Files Fault) → IsRebuildAnswer C G L r → IsOrMemory (Ok out) r)

-- What `rebuild` answers if a loss of at most k sites took some files of a store that held the table: the files that
-- recover it. Put over the others they hold it again.
pub record Recovers (C : CatalogData) (F : FileContents) (k : ℕ) (T : List Row) : Type 0 where
  pub recovered : (G : FileContents) (L : Sites) (r : Result Files Fault) → IsLoss C L → length L ≤ k → SameSurvivors C L F G → IsRebuildAnswer C G L r → IsRecovered C F L T r
  pub whole_again : (G : FileContents) (L : Sites) (r : Result Files Fault) → IsLoss C L → length L ≤ k → SameSurvivors C L F G → IsRebuildAnswer C G L r
      → IfOk r (λ out. Holds C (put_over (contents_of out) G) T)

-- if `check` counted the rows of a store, the store holds one table, and each loss of at most k sites is recovered
abbrev pub CheckedStoresRecover : Type 0
CheckedStoresRecover =
    (C : CatalogData) → IsCatalog C → (F : FileContents) (k n : ℕ) → IsCheckAnswer C F k (Ok n)
    → (T : List Row) × IsOnlyTable (IsAccepted C F k) T × (n ≡ length T) × Recovers C F k T
