-- The clauses of `table`, from its answer.
use Rattle.std.proofs.Common.{◌≡◌, List, [], ap, subst, inl, inr, Result, Ok, Err}
use Rattle.std.specs.Prelude.{IfOk}
use Rattle.cs_store.specs.declared.fault.Fault.{Fault}
use Rattle.cs_schema.specs.CatalogData.{CatalogData}
use Rattle.cs_schema.specs.CatalogRules.{IsCatalog}
use Rattle.cs_schema.specs.FileNames.{FileContents}
use Rattle.cs_schema.specs.Losses.{Sites, IsLoss}
use Rattle.cs_schema.specs.Rows.{Row}
use Rattle.cs_safety.specs.Safety.{IsSafe}
use Rattle.cs_recovery.specs.Holding.{HoldsSurvivors}
use Rattle.cs_recovery.specs.Verdicts.{NamesItsSites, IsRebuildVerdict, Verdict}
use Rattle.cs_recovery.specs.Claims.{IsOnlyTable}
use Rattle.cs_recovery.specs.Columns.{AreColumnsOf}
use Rattle.cs_recovery.specs.TableAnswers.{Columns, IsTableAnswer, IsTableOrMemory, TableClauses}
use Rattle.cs_recovery.proofs.Exact.{Layers}
use Rattle.cs_recovery.proofs.Losses.{accepted_verdict}
use Rattle.cs_recovery.proofs.Clauses.{only_table, verdict_so}

abbrev table_in : Verdict → List Row
table_in (Ok T) = T
table_in (Err f) = []

abbrev IsFault : Verdict → Type 0
IsFault (Ok T) = ⊥
IsFault (Err f) = Unit {0}

no_fault : {A : Type 0} (f : Fault) (T : List Row) → ◌≡◌ {A = Verdict} (Err f) (Ok T) → A
no_fault f T e = absurd (subst IsFault e tt)

module _ (C : CatalogData) (cat : IsCatalog C) (layers : Layers C) (F : FileContents) (L : Sites) where
  -- if each verdict is the table, its rows are returned
  answered : (r : Result Columns Fault) → IsTableAnswer C F L r → (T : List Row) → ((v : Verdict) → IsRebuildVerdict C F L v → v ≡ Ok T) → IsTableOrMemory C T r
  answered (Ok columns) a T is = subst (λ U. AreColumnsOf C U columns.items) (ap table_in (is (Ok a.0) a.1)) a.2
  answered (Err e) (inl m) T is = m
  answered (Err e) (inr v) T is = no_fault e T (is (Err e) v)

  exact : (r : Result Columns Fault) → IsTableAnswer C F L r → IfOk r (λ columns. NamesItsSites C L × IsSafe C L × ((T : List Row) × IsOnlyTable (HoldsSurvivors C F L) T × AreColumnsOf C T columns.items))
  exact (Ok columns) a = let x = only_table C cat layers F L a.0 a.1 in (x.0, x.1, (a.0, x.2, a.2))
  exact (Err e) a = tt

  pub table_clauses : (NamesItsSites C L → IsLoss C L) → (r : Result Columns Fault) → IsTableAnswer C F L r → TableClauses C F L r
  table_clauses loss r a = record {
    gives = λ T n s h. answered r a T (verdict_so C cat layers F L T n s h);
    exact = exact r a;
    accepted = λ G T k b n few same. answered r a T (accepted_verdict C cat layers G F L k T b (loss n) few same);
  }
