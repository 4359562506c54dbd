-- Two answers on the same files are the same, unless memory runs out.
use Rattle.std.proofs.Common.{◌≡◌, ℕ, List, [], refl, sym, ap, subst, ◌∙◌, Bool, true, false, ◌&&◌, ◌||◌, not, ◌⊎◌, inl, inr, length, Result, Ok, Err}
use Rattle.std.specs.Prelude.{nat_lt}
use Rattle.std.specs.FinMap.{same_map}
use borrow.Author.Tests.{ltb-true}
use Rattle.cs_schema.specs.declared.file_name.FileName.{FileName}
use Rattle.cs_store.specs.declared.fault.Fault.{Fault}
use Rattle.cs_schema.specs.CatalogData.{CatalogData, HasSegment, segments, has_join}
use Rattle.cs_schema.specs.CatalogRules.{IsCatalog}
use Rattle.cs_schema.specs.Rows.{Row}
use Rattle.cs_schema.specs.FileNames.{FileContents}
use Rattle.cs_schema.specs.NameOrder.{name_cmp_total, name_cmp-IsAntisymmetric}
use Rattle.cs_schema.specs.Losses.{Sites, lost, alive}
use Rattle.cs_jix.specs.JoinIndex.{join_index_text}
use Rattle.cs_rows.specs.Walk.{Contents}
use Rattle.cs_recovery.specs.Contents.{Reads}
use Rattle.cs_recovery.specs.Places.{entries_for}
use Rattle.cs_recovery.specs.Tables.{when}
use Rattle.cs_recovery.specs.Expected.{AreExpected, written, is_segment, is_affected}
use Rattle.cs_recovery.specs.Verdicts.{Verdict}
use Rattle.cs_recovery.specs.Claims.{SameSurvivors, IsRebuildAnswer}
use Rattle.cs_recovery.specs.AnswerLaws.{IsOrMemory}
use Rattle.cs_store.specs.FileSet.{Files, contents_of}
use Rattle.cs_schema.proofs.Ascending.{false≢true}
use Rattle.cs_recovery.proofs.Exact.{Layers}
use Rattle.cs_recovery.proofs.Accepted.{same_entries}
use Rattle.cs_recovery.proofs.OneVerdict.{one_rebuild_verdict}
use Rattle.cs_recovery.proofs.WalkedTable.{survivors_answer}

abbrev table_in : Verdict → List Row
table_in (Ok T) = T
table_in (Err f) = []

abbrev fault_in : Verdict → Fault
fault_in (Ok T) = Fault.Memory
fault_in (Err f) = f

abbrev IsFault : Verdict → Type 0
IsFault (Ok T) = ⊥
IsFault (Err f) = Unit {0}

pub no_fault : {A : Type 0} (T : List Row) (f : Fault) → ◌≡◌ {A = Verdict} (Ok T) (Err f) → A
no_fault T f e = absurd (subst IsFault (sym e) tt)

both_true : (a b : Bool) → (a && b) ≡ true → (a ≡ true) × (b ≡ true)
both_true true b h = (refl, h)
both_true false b h = false≢true h

first_two : (a b c : Bool) → (a && b && c) ≡ true → (a ≡ true) × (b ≡ true)
first_two true true c h = (refl, refl)
first_two true false c h = false≢true h
first_two false b c h = false≢true h

pub segment_there : (C : CatalogData) (p s : ℕ) → is_segment C p s ≡ true → HasSegment C p s
segment_there C p s e =
    let x = both_true (nat_lt p (length C.projections)) (nat_lt s (segments C p)) e in
    (ltb-true p (length C.projections) x.0, ltb-true s (segments C p) x.1)

module _ (C : CatalogData) (cat : IsCatalog C) (layers : Layers C) (F : FileContents) (L : Sites) where
  -- each reading of the files gives the same written files
  same_written : (S S' : Contents) → Reads C F L S → Reads C F L S' → (T : List Row) (n : FileName) → written C L S T n ≡ written C L S' T n
  same_written S S' r r' T (FileName.Seg p s) = refl
  same_written S S' r r' T (FileName.Del p s) = refl
  same_written S S' r r' T (FileName.Jix p s q) = go (is_affected C L p s q) refl
    where
      go : (b : Bool) → is_affected C L p s q ≡ b → when (is_affected C L p s q) (join_index_text p s q (entries_for C L S T p s q)) ≡ when (is_affected C L p s q) (join_index_text p s q (entries_for C L S' T p s q))
      go true e =
          let x = first_two (is_segment C p s) (has_join C p q) (lost C L p s || not (alive C L q)) e in
          let here : HasSegment C p s = segment_there C p s x.0 in
          ap (λ es. when (is_affected C L p s q) (join_index_text p s q es)) (same_entries C cat layers F L S S' r r' T p s q here ((cat.projections p here.0).joins q x.1).0)
      go false e = ap (λ b. when b (join_index_text p s q (entries_for C L S T p s q))) e ∙ sym (ap (λ b. when b (join_index_text p s q (entries_for C L S' T p s q))) e)

  same_files : (T : List Row) (a b : Files) → AreExpected C F L T (contents_of a) → AreExpected C F L T (contents_of b) → a ≡ b
  same_files T a b x y = same_map name_cmp_total name_cmp-IsAntisymmetric a b (λ n. x.files n ∙ same_written x.contents y.contents x.reads y.reads T n ∙ sym (y.files n))

  pub same_answer : (r s : Result Files Fault) → IsRebuildAnswer C F L r → IsRebuildAnswer C F L s → IsOrMemory s r ⊎ (s ≡ Err Fault.Memory)
  same_answer (Ok a) (Ok b) x y =
      let e : y.0 ≡ x.0 = ap table_in (one_rebuild_verdict C cat layers F L (Ok y.0) (Ok x.0) y.1 x.1) in
      inl (inl (ap Ok (same_files x.0 a b x.2 (subst (λ U. AreExpected C F L U (contents_of b)) e y.2))))
  same_answer (Ok a) (Err f) x (inl m) = inr (ap Err m)
  same_answer (Ok a) (Err f) x (inr v) = no_fault x.0 f (one_rebuild_verdict C cat layers F L (Ok x.0) (Err f) x.1 v)
  same_answer (Err e) (Ok b) (inl m) y = inl (inr (ap Err m))
  same_answer (Err e) (Ok b) (inr u) y = no_fault y.0 e (one_rebuild_verdict C cat layers F L (Ok y.0) (Err e) y.1 u)
  same_answer (Err e) (Err f) (inl m) y = inl (inr (ap Err m))
  same_answer (Err e) (Err f) (inr u) (inl m) = inr (ap Err m)
  same_answer (Err e) (Err f) (inr u) (inr v) = inl (inl (ap (λ w. Err (fault_in w)) (one_rebuild_verdict C cat layers F L (Err e) (Err f) u v)))

-- two answers on files that agree under the surviving names
pub one_answer : (C : CatalogData) → IsCatalog C → Layers C → (F G : FileContents) (L : Sites) (r s : Result Files Fault) → SameSurvivors C L F G → IsRebuildAnswer C F L r → IsRebuildAnswer C G L s → IsOrMemory s r ⊎ (s ≡ Err Fault.Memory)
one_answer C cat layers F G L r s same x y = same_answer C cat layers G L r s (survivors_answer C F G L same r x) y
