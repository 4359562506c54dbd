-- The clauses of `rebuild` and `check`, from their answers.
use Rattle.std.proofs.Common.{◌≡◌, ℕ, List, length, Result, Ok, Err}
use Rattle.std.specs.Prelude.{IfOk}
use Rattle.cs_store.specs.declared.fault.Fault.{Fault}
use Rattle.cs_schema.specs.CatalogData.{CatalogData}
use Rattle.cs_schema.specs.CatalogRules.{IsCatalog}
use Rattle.cs_schema.specs.Rows.{Row}
use Rattle.cs_schema.specs.Losses.{Sites, IsLoss}
use Rattle.cs_schema.specs.FileNames.{FileContents}
use Rattle.cs_safety.specs.Safety.{IsSafe}
use Rattle.cs_recovery.specs.Holding.{HoldsSurvivors, Holds}
use Rattle.cs_recovery.specs.Expected.{AreExpected}
use Rattle.cs_recovery.specs.Verdicts.{NamesItsSites}
use Rattle.cs_recovery.specs.Claims.{IsRebuildAnswer, IsCheckAnswer, IsAccepted, IsOnlyTable, put_over}
use Rattle.cs_store.specs.FileSet.{Files}
use Rattle.cs_store.specs.FileSet.{contents_of}
use Rattle.cs_recovery.specs.Laws.{RebuildClauses, CheckClauses}
use Rattle.cs_recovery.proofs.Exact.{Layers}
use Rattle.cs_recovery.proofs.Losses.{accepted_answer}
use Rattle.cs_recovery.proofs.Clauses.{answer_exact, answer_recovers, answer_whole}
use Rattle.cs_recovery.proofs.CheckClauses.{answer_accepts, answer_counts}

module _ (C : CatalogData) (cat : IsCatalog C) (layers : Layers C) (F : FileContents) where
  pub rebuild_clauses : (L : Sites) → (NamesItsSites C L → IsLoss C L) → (r : Result Files Fault) → IsRebuildAnswer C F L r → RebuildClauses C F L r
  rebuild_clauses L loss r a = record {
    recovers = λ T n s h. answer_recovers C cat layers F L r a T n s h;
    exact = exact r a;
    accepted = λ G T k b n few same. accepted_answer C cat layers G F L k T b (loss n) few same r a;
    whole_again = λ T h. whole r a T h;
  }
    where
      exact : (r : Result Files Fault) → IsRebuildAnswer C F L r → IfOk r (λ out. NamesItsSites C L × IsSafe C L × ((T : List Row) × IsOnlyTable (HoldsSurvivors C F L) T × AreExpected C F L T (contents_of out)))
      exact (Ok out) a = answer_exact C cat layers F L out a
      exact (Err e) a = tt

      whole : (r : Result Files Fault) → IsRebuildAnswer C F L r → (T : List Row) → HoldsSurvivors C F L T → IfOk r (λ out. Holds C (put_over (contents_of out) F) T)
      whole (Ok out) a T h = answer_whole C cat layers F L out a T h
      whole (Err e) a T h = tt

  pub check_clauses : (k : ℕ) (r : Result ℕ Fault) → IsCheckAnswer C F k r → CheckClauses C F k r
  check_clauses k r a = record { accepts = λ T b. answer_accepts C cat layers F k r a T b; exact = exact r a }
    where
      exact : (r : Result ℕ Fault) → IsCheckAnswer C F k r → IfOk r (λ n. (T : List Row) × IsOnlyTable (IsAccepted C F k) T × (n ≡ length T))
      exact (Ok n) a = answer_counts C cat layers F k n a
      exact (Err e) a = tt
