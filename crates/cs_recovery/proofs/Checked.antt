-- If `check` accepted a store, each loss of at most k sites is recovered.
use Rattle.std.proofs.Common.{◌≡◌, ℕ, ◌≤◌, List, length, Result, Ok, Err}
use Rattle.std.specs.Prelude.{IfOk}
use Rattle.cs_store.specs.declared.fault.Fault.{Fault}
use Rattle.cs_schema.specs.CatalogData.{CatalogData}
use Rattle.cs_schema.specs.CatalogRules.{IsCatalog}
use Rattle.cs_schema.specs.FileNames.{FileContents}
use Rattle.cs_schema.specs.Losses.{Sites, IsLoss}
use Rattle.cs_schema.specs.Rows.{Row}
use Rattle.cs_recovery.specs.Holding.{Holds}
use Rattle.cs_recovery.specs.Claims.{IsAccepted, IsOnlyTable, SameSurvivors, IsRebuildAnswer, IsCheckAnswer, put_over}
use Rattle.cs_recovery.specs.AnswerLaws.{Recovers}
use Rattle.cs_store.specs.FileSet.{Files, contents_of}
use Rattle.cs_recovery.proofs.Exact.{Layers}
use Rattle.cs_recovery.proofs.Clauses.{answer_whole}
use Rattle.cs_recovery.proofs.CheckClauses.{answer_counts}
use Rattle.cs_recovery.proofs.Losses.{accepted_answer, held_rest}

module _ (C : CatalogData) (cat : IsCatalog C) (layers : Layers C) (F : FileContents) (k : ℕ) where
  accepted_recovers : (T : List Row) → IsAccepted C F k T → Recovers C F k T
  accepted_recovers T a = record { recovered = λ G L r l few same x. accepted_answer C cat layers F G L k T a l few same r x; whole_again = whole }
    where
      whole : (G : FileContents) (L : Sites) (r : Result Files Fault) → IsLoss C L → length L ≤ k → SameSurvivors C L F G → IsRebuildAnswer C G L r → IfOk r (λ out. Holds C (put_over (contents_of out) G) T)
      whole G L (Ok out) l few same x = answer_whole C cat layers G L out x T (held_rest C cat layers F G L T a.holds same)
      whole G L (Err e) l few same x = tt

  pub checked_recovers : (n : ℕ) → IsCheckAnswer C F k (Ok n) → (T : List Row) × IsOnlyTable (IsAccepted C F k) T × (n ≡ length T) × Recovers C F k T
  checked_recovers n x = let a = answer_counts C cat layers F k n x in (a.0, a.1, a.2, accepted_recovers a.0 a.1.0)
