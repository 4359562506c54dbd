-- What `table` answers: the table that survives a loss.
use Rattle.std.specs.Prelude.{◌≡◌, ℕ, ◌≤◌, List, length, Vec, Result, Ok, Err, IfOk, MatchResult}
use Rattle.std.specs.Global.{Global}
use Rattle.cs_store.specs.declared.fault.Fault.{Fault}
use Rattle.cs_store.specs.Fault.{MemoryOr}
use Rattle.cs_schema.specs.declared.cells.Cells.{Cells}
use Rattle.cs_schema.specs.CatalogData.{CatalogData}
use Rattle.cs_schema.specs.CatalogRules.{IsCatalog}
use Rattle.cs_schema.specs.FileNames.{FileContents}
use Rattle.cs_schema.specs.Losses.{Sites, IsLoss}
use Rattle.cs_schema.specs.Rows.{Row}
use Rattle.cs_safety.specs.Safety.{IsSafe}
use Rattle.cs_recovery.specs.Holding.{HoldsSurvivors}
use Rattle.cs_recovery.specs.Verdicts.{NamesItsSites, IsRebuildVerdict}
use Rattle.cs_recovery.specs.Claims.{IsAccepted, IsOnlyTable, SameSurvivors}
use Rattle.cs_recovery.specs.Columns.{AreColumnsOf}

abbrev pub Columns : Type 0
Columns = Vec Cells Global

-- An answer of `table`: the rows of the table of `rebuild`'s verdict by primary key, its fault, or out of memory.
abbrev pub IsTableAnswer : CatalogData → FileContents → Sites → Result Columns Fault → Type 0
IsTableAnswer C F L (Ok columns) = (T : List Row) × IsRebuildVerdict C F L (Ok T) × AreColumnsOf C T columns.items
IsTableAnswer C F L (Err e) = MemoryOr e (IsRebuildVerdict C F L (Err e))

-- out of memory, or the rows of the table
abbrev pub IsTableOrMemory : CatalogData → List Row → Result Columns Fault → Type 0
IsTableOrMemory C T r = MatchResult r (λ columns. AreColumnsOf C T columns.items) (λ e. e ≡ Fault.Memory)

-- the other clauses of `table` follow from its answer
pub record TableClauses (C : CatalogData) (F : FileContents) (L : Sites) (r : Result Columns Fault) : Type 0 where
  pub gives : (T : List Row) → NamesItsSites C L → IsSafe C L → HoldsSurvivors C F L T → IsTableOrMemory C T r
  pub exact : IfOk r (λ columns. NamesItsSites C L × IsSafe C L × ((T : List Row) × IsOnlyTable (HoldsSurvivors C F L) T × AreColumnsOf C T columns.items))
  pub accepted : (G : FileContents) (T : List Row) (k : ℕ) → IsAccepted C G k T → NamesItsSites C L → length L ≤ k → SameSurvivors C L G F → IsTableOrMemory C T r

abbrev pub TableAnswersSuffice : Type 0
TableAnswersSuffice =
    (C : CatalogData) → IsCatalog C → (F : FileContents) (L : Sites) → (NamesItsSites C L → IsLoss C L) → (r : Result Columns Fault) → IsTableAnswer C F L r → TableClauses C F L r
