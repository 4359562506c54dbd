-- `check` has one verdict, and its other clauses follow from its answer.
use Rattle.std.proofs.Common.{◌≡◌, ℕ, ◌≤◌, List, [], sym, ap, subst, ◌∙◌, inl, inr, length, arith, Result, Ok, Err}
use Rattle.std.specs.Prelude.{MatchResult}
use Rattle.std.specs.List.Sorted.{IsStrictlySortedBy}
use Rattle.cs_schema.proofs.Ascending.{false≢true}
use Rattle.cs_store.specs.declared.fault.Fault.{Fault}
use Rattle.cs_schema.specs.CatalogData.{CatalogData}
use Rattle.cs_schema.specs.CatalogRules.{IsCatalog}
use Rattle.cs_schema.specs.Rows.{Row}
use Rattle.cs_schema.specs.Losses.{IsLoss}
use Rattle.cs_schema.specs.FileNames.{FileContents}
use Rattle.cs_safety.specs.Safety.{IsSafe, IsKSafe}
use Rattle.cs_recovery.specs.Verdicts.{IsCheckVerdict, Verdict}
use Rattle.cs_recovery.specs.Claims.{IsCheckAnswer, IsAccepted, IsOnlyTable}
use Rattle.cs_recovery.proofs.Exact.{Layers}
use Rattle.cs_safety.proofs.FirstLosses.{one_first_unsafe}
use Rattle.cs_recovery.proofs.Accepted.{verdict_is}
use Rattle.cs_recovery.proofs.Judged.{verdict_holds}
use Rattle.cs_recovery.proofs.KeptKinds.{walk_keeps_kinds}
use Rattle.cs_recovery.proofs.RowKinds.{rows_keep_kinds}
use Rattle.cs_recovery.proofs.OneVerdict.{one_verdict}

abbrev table_in : Verdict → List Row
table_in (Ok T) = T
table_in (Err f) = []

abbrev IsFault : Verdict → Type 0
IsFault (Ok T) = ⊥
IsFault (Err f) = Unit {0}

no_loss : (C : CatalogData) → IsLoss C []
unfolding IsStrictlySortedBy
no_loss C = (tt, λ x m. false≢true m)

pub safe_whole : (C : CatalogData) (k : ℕ) → IsKSafe C k → IsSafe C []
safe_whole C k s = s [] (no_loss C) (omega arith)

module _ (C : CatalogData) (cat : IsCatalog C) (layers : Layers C) (F : FileContents) (k : ℕ) where
  pub one_check_verdict : (v u : Verdict) → IsCheckVerdict C F k v → IsCheckVerdict C F k u → v ≡ u
  one_check_verdict v u (IsCheckVerdict.bad_k l x) (IsCheckVerdict.bad_k m y) = x ∙ sym y
  one_check_verdict v u (IsCheckVerdict.bad_k l x) (IsCheckVerdict.unsafe m M b y) = absurd (omega (arith, l, m))
  one_check_verdict v u (IsCheckVerdict.bad_k l x) (IsCheckVerdict.safe m s y) = absurd (omega (arith, l, m))
  one_check_verdict v u (IsCheckVerdict.unsafe l L a x) (IsCheckVerdict.bad_k m y) = absurd (omega (arith, l, m))
  one_check_verdict v u (IsCheckVerdict.unsafe l L a x) (IsCheckVerdict.unsafe m M b y) = x ∙ ap (λ N. Err (Fault.Unsafe N)) (one_first_unsafe C k L M a b) ∙ sym y
  one_check_verdict v u (IsCheckVerdict.unsafe l L a x) (IsCheckVerdict.safe m s y) = absurd (a.is_unsafe (s L a.loss a.count))
  one_check_verdict v u (IsCheckVerdict.safe l s x) (IsCheckVerdict.bad_k m y) = absurd (omega (arith, l, m))
  one_check_verdict v u (IsCheckVerdict.safe l s x) (IsCheckVerdict.unsafe m M b y) = absurd (b.is_unsafe (s M b.loss b.count))
  one_check_verdict v u (IsCheckVerdict.safe l s x) (IsCheckVerdict.safe m t y) = one_verdict C cat layers F [] v u x y

  no_fault : {A : Type 0} (T : List Row) (f : Fault) → ◌≡◌ {A = Verdict} (Ok T) (Err f) → A
  no_fault T f e = absurd (subst IsFault (sym e) tt)

  -- if a verdict is a table, only that table is accepted
  pub only_accepted : (T : List Row) → IsCheckVerdict C F k (Ok T) → IsOnlyTable (IsAccepted C F k) T
  only_accepted T (IsCheckVerdict.bad_k l e) = no_fault T Fault.BadK e
  only_accepted T (IsCheckVerdict.unsafe l L a e) = no_fault T (Fault.Unsafe L) e
  only_accepted T (IsCheckVerdict.safe l s w) = (
    record { limit = l; safe = s; holds = verdict_holds C cat F [] (walk_keeps_kinds C cat F []) (rows_keep_kinds C cat F []) T w },
    λ U a. sym (ap table_in (verdict_is C cat layers F [] (safe_whole C k s) U a.holds (Ok T) w)),
  )

  -- and an accepted table is the verdict
  pub accepted_checks : (T : List Row) → IsAccepted C F k T → (v : Verdict) → IsCheckVerdict C F k v → v ≡ Ok T
  accepted_checks T a v (IsCheckVerdict.bad_k l e) = absurd (let m : k ≤ 3 = a.limit in omega (arith, l, m))
  accepted_checks T a v (IsCheckVerdict.unsafe l L b e) = absurd (b.is_unsafe (a.safe L b.loss b.count))
  accepted_checks T a v (IsCheckVerdict.safe l s w) = verdict_is C cat layers F [] (safe_whole C k s) T a.holds v w

  pub answer_accepts : (r : Result ℕ Fault) → IsCheckAnswer C F k r → (T : List Row) → IsAccepted C F k T → MatchResult r (λ n. n ≡ length T) (λ e. e ≡ Fault.Memory)
  answer_accepts (Ok n) x T a = x.2 ∙ ap (λ v. length (table_in v)) (accepted_checks T a (Ok x.0) x.1)
  answer_accepts (Err f) (inl m) T a = m
  answer_accepts (Err f) (inr x) T a = no_fault T f (sym (accepted_checks T a (Err f) x))

  pub answer_counts : (n : ℕ) → IsCheckAnswer C F k (Ok n) → (T : List Row) × IsOnlyTable (IsAccepted C F k) T × (n ≡ length T)
  answer_counts n x = (x.0, only_accepted x.0 x.1, x.2)
