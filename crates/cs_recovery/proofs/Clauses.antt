-- The other clauses of `rebuild` follow from its answer.
use Rattle.std.proofs.Common.{◌≡◌, List, [], sym, ap, subst, inl, inr, Result, Ok, Err}
use Rattle.cs_store.specs.declared.fault.Fault.{Fault}
use Rattle.cs_schema.specs.CatalogData.{CatalogData}
use Rattle.cs_schema.specs.CatalogRules.{IsCatalog}
use Rattle.cs_schema.specs.Rows.{Row}
use Rattle.cs_schema.specs.Losses.{Sites}
use Rattle.cs_schema.specs.FileNames.{FileContents}
use Rattle.cs_safety.specs.Safety.{IsSafe}
use Rattle.cs_recovery.specs.Holding.{HoldsSurvivors, Holds}
use Rattle.cs_recovery.specs.Expected.{AreExpected}
use Rattle.cs_recovery.specs.Verdicts.{NamesItsSites, IsRebuildVerdict, Verdict}
use Rattle.cs_recovery.specs.Claims.{IsRebuildAnswer, IsRecovered, IsOnlyTable, put_over}
use Rattle.cs_store.specs.FileSet.{Files}
use Rattle.cs_store.specs.FileSet.{contents_of}
use Rattle.cs_recovery.proofs.Exact.{Layers}
use Rattle.cs_recovery.proofs.Accepted.{verdict_is}
use Rattle.cs_recovery.proofs.Judged.{verdict_holds}
use Rattle.cs_recovery.proofs.KeptKinds.{walk_keeps_kinds}
use Rattle.cs_recovery.proofs.RowKinds.{rows_keep_kinds}
use Rattle.cs_recovery.proofs.Whole.{whole_again}

abbrev table_in : Verdict → List Row
table_in (Ok T) = T
table_in (Err f) = []

abbrev IsFault : Verdict → Type 0
IsFault (Ok T) = ⊥
IsFault (Err f) = Unit {0}

module _ (C : CatalogData) (cat : IsCatalog C) (layers : Layers C) (F : FileContents) (L : Sites) where
  no_fault : {A : Type 0} (T : List Row) (f : Fault) → ◌≡◌ {A = Verdict} (Ok T) (Err f) → A
  no_fault T f e = absurd (subst IsFault (sym e) tt)

  -- if a verdict is a table, the loss names sites of the catalog and is safe, and only that table is held
  pub only_table : (T : List Row) → IsRebuildVerdict C F L (Ok T) → NamesItsSites C L × IsSafe C L × IsOnlyTable (HoldsSurvivors C F L) T
  only_table T (IsRebuildVerdict.site n e) = no_fault T Fault.Site e
  only_table T (IsRebuildVerdict.unsafe n s e) = no_fault T (Fault.Unsafe L) e
  only_table T (IsRebuildVerdict.safe n s w) = (n, s, (verdict_holds C cat F L (walk_keeps_kinds C cat F L) (rows_keep_kinds C cat F L) T w, λ U h. sym (ap table_in (verdict_is C cat layers F L s U h (Ok T) w))))

  pub verdict_so : (T : List Row) → NamesItsSites C L → IsSafe C L → HoldsSurvivors C F L T → (v : Verdict) → IsRebuildVerdict C F L v → v ≡ Ok T
  verdict_so T n s h v (IsRebuildVerdict.site m e) = absurd (m n)
  verdict_so T n s h v (IsRebuildVerdict.unsafe m u e) = absurd (u s)
  verdict_so T n s h v (IsRebuildVerdict.safe m u w) = verdict_is C cat layers F L u T h v w

  pub answer_exact : (out : Files) → IsRebuildAnswer C F L (Ok out) → NamesItsSites C L × IsSafe C L × ((T : List Row) × IsOnlyTable (HoldsSurvivors C F L) T × AreExpected C F L T (contents_of out))
  answer_exact out a = let x = only_table a.0 a.1 in (x.0, x.1, (a.0, x.2, a.2))

  pub answer_recovers : (r : Result Files Fault) → IsRebuildAnswer C F L r → (T : List Row) → NamesItsSites C L → IsSafe C L → HoldsSurvivors C F L T → IsRecovered C F L T r
  answer_recovers (Ok out) a T n s h =
      let e : a.0 ≡ T = ap table_in (verdict_so T n s h (Ok a.0) a.1) in
      subst (λ U. AreExpected C F L U (contents_of out)) e a.2
  answer_recovers (Err f) (inl m) T n s h = m
  answer_recovers (Err f) (inr v) T n s h = no_fault T f (sym (verdict_so T n s h (Err f) v))

  pub answer_whole : (out : Files) → IsRebuildAnswer C F L (Ok out) → (T : List Row) → HoldsSurvivors C F L T → Holds C (put_over (contents_of out) F) T
  answer_whole out a T h =
      let x = only_table a.0 a.1 in
      let e : T ≡ a.0 = x.2.1 T h in
      whole_again C cat layers F L T h (contents_of out) (subst (λ U. AreExpected C F L U (contents_of out)) (sym e) a.2)
