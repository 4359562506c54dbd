-- The survivors of an accepted store hold its table, and the answers that follow.
use Rattle.std.proofs.Common.{◌≡◌, ℕ, ◌≤◌, List, [], sym, ap, subst, inl, inr, length, Result, Ok, Err}
use Rattle.cs_store.specs.declared.fault.Fault.{Fault}
use Rattle.cs_schema.specs.CatalogData.{CatalogData}
use Rattle.cs_schema.specs.CatalogRules.{IsCatalog}
use Rattle.cs_schema.specs.Rows.{Row}
use Rattle.cs_schema.specs.FileNames.{FileContents}
use Rattle.cs_schema.specs.Losses.{Sites, IsLoss}
use Rattle.cs_recovery.specs.Holding.{HoldsSurvivors, Holds}
use Rattle.cs_recovery.specs.Verdicts.{Verdict, IsRebuildVerdict}
use Rattle.cs_recovery.specs.Expected.{AreExpected}
use Rattle.cs_recovery.specs.Claims.{IsAccepted, SameSurvivors, IsRebuildAnswer, IsRecovered}
use Rattle.cs_store.specs.FileSet.{Files}
use Rattle.cs_store.specs.FileSet.{contents_of}
use Rattle.cs_schema.proofs.Ascending.{false≢true}
use Rattle.cs_recovery.proofs.Exact.{Layers}
use Rattle.cs_recovery.proofs.Accepted.{verdict_is}
use Rattle.cs_recovery.proofs.FewerSurvive.{fewer_hold, reads_under}

abbrev table_in : Verdict → List Row
table_in (Ok T) = T
table_in (Err f) = []

abbrev IsFault : Verdict → Type 0
IsFault (Ok T) = ⊥
IsFault (Err f) = Unit {0}

-- the survivors of a loss hold the table of the whole store, whatever is under the other names
pub held_rest : (C : CatalogData) → IsCatalog C → Layers C → (F G : FileContents) (L : Sites) (T : List Row) → Holds C F T → SameSurvivors C L F G → HoldsSurvivors C G L T
held_rest C cat layers F G L T h same = fewer_hold C cat layers F [] L (λ x m. false≢true m) T h G same

fault≢table : {A : Type 0} (f : Fault) (T : List Row) → ◌≡◌ {A = Verdict} (Err f) (Ok T) → A
fault≢table f T e = absurd (subst IsFault e tt)

-- The verdict on what survives of an accepted store is its table.
pub accepted_verdict : (C : CatalogData) → IsCatalog C → Layers C → (F G : FileContents) (L : Sites) (k : ℕ) (T : List Row) → IsAccepted C F k T → IsLoss C L → length L ≤ k → SameSurvivors C L F G → (v : Verdict) → IsRebuildVerdict C G L v → v ≡ Ok T
accepted_verdict C cat layers F G L k T a l few same v (IsRebuildVerdict.site n e) = absurd (n (λ x m. (l.1 x m).1))
accepted_verdict C cat layers F G L k T a l few same v (IsRebuildVerdict.unsafe n u e) = absurd (u (a.safe L l few))
accepted_verdict C cat layers F G L k T a l few same v (IsRebuildVerdict.safe n u w) = verdict_is C cat layers G L u T (held_rest C cat layers F G L T a.holds same) v w

-- Every answer on what survives of an accepted store is out of memory, or the files that recover its table.
pub accepted_answer : (C : CatalogData) → IsCatalog C → Layers C → (F G : FileContents) (L : Sites) (k : ℕ) (T : List Row) → IsAccepted C F k T → IsLoss C L → length L ≤ k → SameSurvivors C L F G → (r : Result Files Fault) → IsRebuildAnswer C G L r → IsRecovered C F L T r
accepted_answer C cat layers F G L k T a l few same (Ok out) x =
    let e : x.0 ≡ T = ap table_in (accepted_verdict C cat layers F G L k T a l few same (Ok x.0) x.1) in
    let y : AreExpected C G L T (contents_of out) = subst (λ U. AreExpected C G L U (contents_of out)) e x.2 in
    record { contents = y.contents; reads = reads_under C G F L y.contents (λ n v. sym (same n v)) y.reads; files = y.files }
accepted_answer C cat layers F G L k T a l few same (Err e) (inl m) = m
accepted_answer C cat layers F G L k T a l few same (Err e) (inr x) = fault≢table e T (accepted_verdict C cat layers F G L k T a l few same (Err e) x)
