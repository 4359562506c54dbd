-- Laws about the definitions; each is the contract of a function of src/laws.rt.
use Rattle.std.specs.Prelude.{◌≡◌, ℕ, ◌<◌, ◌≤◌, false, List, [], length, ◌↔◌, Some, Result, Ok, IfOk, MatchResult}
use Rattle.cs_store.specs.declared.fault.Fault.{Fault}
use Rattle.cs_schema.specs.CatalogData.{CatalogData}
use Rattle.cs_schema.specs.CatalogRules.{IsCatalog}
use Rattle.cs_schema.specs.FileNames.{FileContents}
use Rattle.cs_schema.specs.Losses.{Sites, IsLoss}
use Rattle.cs_schema.specs.Rows.{Row}
use Rattle.cs_schema.specs.Lists.{IsIn}
use Rattle.cs_safety.specs.Safety.{IsSafe}
use Rattle.cs_rows.specs.Walk.{Contents, At, Stray}
use Rattle.cs_rows.specs.WalkByRows.{Found, found_from}
use Rattle.cs_recovery.specs.Contents.{Reads}
use Rattle.cs_recovery.specs.Holding.{HoldsSurvivors, Holds}
use Rattle.cs_recovery.specs.Expected.{AreExpected}
use Rattle.cs_recovery.specs.Verdicts.{NamesItsSites, IsVerdict, IsWalkedBy, IsRebuildVerdict, IsCheckVerdict, Verdict}
use Rattle.cs_order.specs.Tables.{is_twice}
use Rattle.cs_recovery.specs.Claims.{IsAccepted, IsOnlyTable, SameSurvivors, IsRebuildAnswer, IsCheckAnswer, IsRecovered, put_over}
use Rattle.cs_store.specs.FileSet.{Files}
use Rattle.cs_store.specs.FileSet.{contents_of}

-- if the surviving files of a safe loss hold a table, every verdict on them is that table
abbrev pub VerdictIsTheTable : Type 0
VerdictIsTheTable = (C : CatalogData) → IsCatalog C → (F : FileContents) (L : Sites) (T : List Row) → IsSafe C L → HoldsSurvivors C F L T → (v : Verdict) → IsVerdict C F L v → v ≡ Ok T

-- every answer on what survives of an accepted store is out of memory, or the files that recover its table
abbrev pub AcceptedStoresRecover : Type 0
AcceptedStoresRecover =
    (C : CatalogData) → IsCatalog C → (F G : FileContents) (L : Sites) (k : ℕ) (T : List Row)
    → IsAccepted C F k T → IsLoss C L → length L ≤ k → SameSurvivors C L F G → (r : Result Files Fault) → IsRebuildAnswer C G L r → IsRecovered C F L T r

-- if a verdict is a table, the surviving files hold it
abbrev pub VerdictTableIsHeld : Type 0
VerdictTableIsHeld = (C : CatalogData) → IsCatalog C → (F : FileContents) (L : Sites) (T : List Row) → IsVerdict C F L (Ok T) → HoldsSurvivors C F L T

-- the surviving files together with the expected ones hold the table again
abbrev pub WholeAgain : Type 0
WholeAgain = (C : CatalogData) → IsCatalog C → (F : FileContents) (L : Sites) (T : List Row) → HoldsSurvivors C F L T → (out : FileContents) → AreExpected C F L T out → Holds C (put_over out F) T

-- `rebuild` has at most one verdict, so the answers of two runs agree, unless memory runs out
abbrev pub OneRebuildVerdict : Type 0
OneRebuildVerdict = (C : CatalogData) → IsCatalog C → (F : FileContents) (L : Sites) (v u : Verdict) → IsRebuildVerdict C F L v → IsRebuildVerdict C F L u → v ≡ u

-- `check` has at most one verdict
abbrev pub CheckHasOneVerdict : Type 0
CheckHasOneVerdict = (C : CatalogData) → IsCatalog C → (F : FileContents) (k : ℕ) (v u : Verdict) → IsCheckVerdict C F k v → IsCheckVerdict C F k u → v ≡ u

-- if the surviving files of a safe loss hold a table, the walk ends with exactly its rows, and no key occurs twice
abbrev pub WalkFindsTheTable : Type 0
WalkFindsTheTable =
    (C : CatalogData) → IsCatalog C → (F : FileContents) (L : Sites) (T : List Row) → IsSafe C L → HoldsSurvivors C F L T
    → (S : Contents) (w : Result (List Row) Stray) → Reads C F L S → IsWalkedBy C.safety C L S w → (rows : List Row) × (w ≡ Ok rows) × ((r : Row) → IsIn r rows ↔ IsIn r T) × (is_twice C rows ≡ false)

-- the last level of a walk by rows reaches no row
abbrev pub LevelsEnd : Type 0
LevelsEnd = (C : CatalogData) (L : Sites) (S : Contents) (p : ℕ) (at : At) → p < length C.projections → (G : Found) → found_from C L S p at ≡ Some G → G.last ≡ []

-- files under names that do not survive do not change an answer
abbrev pub SurvivorsDecide : Type 0
SurvivorsDecide = (C : CatalogData) (F G : FileContents) (L : Sites) → SameSurvivors C L F G → (r : Result Files Fault) → IsRebuildAnswer C F L r → IsRebuildAnswer C G L r

-- the other clauses of `rebuild` follow from its answer
pub record RebuildClauses (C : CatalogData) (F : FileContents) (L : Sites) (r : Result Files Fault) : Type 0 where
  pub recovers : (T : List Row) → NamesItsSites C L → IsSafe C L → HoldsSurvivors C F L T → IsRecovered C F L T r
  pub exact : IfOk r (λ out. NamesItsSites C L × IsSafe C L × ((T : List Row) × IsOnlyTable (HoldsSurvivors C F L) T × AreExpected C F L T (contents_of out)))
  pub accepted : (G : FileContents) (T : List Row) (k : ℕ) → IsAccepted C G k T → NamesItsSites C L → length L ≤ k → SameSurvivors C L G F → IsRecovered C G L T r
  pub whole_again : (T : List Row) → HoldsSurvivors C F L T → IfOk r (λ out. Holds C (put_over (contents_of out) F) T)

abbrev pub RebuildAnswersSuffice : Type 0
RebuildAnswersSuffice =
    (C : CatalogData) → IsCatalog C → (F : FileContents) (L : Sites) → (NamesItsSites C L → IsLoss C L) → (r : Result Files Fault) → IsRebuildAnswer C F L r → RebuildClauses C F L r

-- the other clauses of `check` follow from its answer
pub record CheckClauses (C : CatalogData) (F : FileContents) (k : ℕ) (r : Result ℕ Fault) : Type 0 where
  pub accepts : (T : List Row) → IsAccepted C F k T → MatchResult r (λ n. n ≡ length T) (λ e. e ≡ Fault.Memory)
  pub exact : IfOk r (λ n. (T : List Row) × IsOnlyTable (IsAccepted C F k) T × (n ≡ length T))

abbrev pub CheckAnswersSuffice : Type 0
CheckAnswersSuffice = (C : CatalogData) → IsCatalog C → (F : FileContents) (k : ℕ) (r : Result ℕ Fault) → IsCheckAnswer C F k r → CheckClauses C F k r
