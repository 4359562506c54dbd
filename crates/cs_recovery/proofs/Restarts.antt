-- If some files of a recovery were written, the files hold the same table, and the answer on them is the same.
use Rattle.std.proofs.Common.{◌≡◌, ℕ, zero, suc, ◌≤◌, List, [], ◌∷◌, refl, sym, ap, ◌∙◌, Bool, true, false, not, cond, ◌&&◌, ◌==◌, ◌⊎◌, inl, inr, Some, None, length, arith, eq-eqb, Ok, Err, Result, subst}
use Rattle.std.specs.Prelude.{nat_lt, nat_le, map}
use Rattle.std.specs.Option.{option_or}
use borrow.Author.Tests.{lt-ltb, le-leb}
use lib.Pointwise.{pointwise}
use Rattle.cs_schema.specs.declared.file_name.FileName.{FileName}
use Rattle.cs_schema.specs.declared.kinds.Safety.{Safety}
use Rattle.cs_store.specs.declared.fault.Fault.{Fault}
use Rattle.cs_schema.specs.CatalogData.{CatalogData, segments, has_join}
use Rattle.cs_schema.specs.CatalogRules.{IsCatalog}
use Rattle.cs_schema.specs.Rows.{Row, project}
use Rattle.cs_schema.specs.FileNames.{FileContents, Survives}
use Rattle.cs_schema.specs.Losses.{Sites, lost}
use Rattle.cs_schema.specs.Order.{rows_of}
use Rattle.cs_segment.specs.SegmentFile.{base_of, segment_text}
use Rattle.cs_delta.specs.DeltaFile.{no_changes, delta_text}
use Rattle.cs_jix.specs.JoinIndex.{Place, join_index_text}
use Rattle.cs_safety.specs.Safety.{IsSafe, IsSafeBy}
use Rattle.cs_rows.specs.Walk.{Contents, Stray, walked}
use Rattle.cs_rows.specs.WalkByRows.{walked_by_rows}
use Rattle.cs_recovery.specs.Contents.{IsJoinOf, Reads}
use Rattle.cs_recovery.specs.Holding.{AreContentsOf, HoldsSurvivors, agrees}
use Rattle.cs_recovery.specs.Places.{entries_for}
use Rattle.cs_recovery.specs.Tables.{when}
use Rattle.cs_recovery.specs.Expected.{AreExpected, written, is_segment, is_lost, is_affected}
use Rattle.cs_recovery.specs.Verdicts.{IsVerdict, IsRebuildVerdict, IsWalkedBy, judged}
use Rattle.cs_recovery.specs.Claims.{IsRebuildAnswer}
use Rattle.cs_recovery.specs.AnswerLaws.{IsOrMemory, IsPartlyWritten}
use Rattle.cs_store.specs.FileSet.{Files, contents_of}
use Rattle.cs_schema.proofs.Ascending.{false≢true}
use Rattle.cs_recovery.proofs.Exact.{Layers, judged_is, judged_by_rows}
use Rattle.cs_recovery.proofs.Accepted.{same_contents}
use Rattle.cs_recovery.proofs.FewerSurvive.{image_under, join_under}
use Rattle.cs_recovery.proofs.Whole.{entries_file}
use Rattle.cs_recovery.proofs.Clauses.{only_table}
use Rattle.cs_recovery.proofs.OneAnswer.{no_fault, segment_there, same_answer}

and_false : (a b : Bool) → b ≡ false → (a && b) ≡ false
and_false true b e = e
and_false false b e = refl

split_and : (a b : Bool) → (a && b) ≡ true → (a ≡ true) × (b ≡ true)
split_and true b h = (refl, h)
split_and false b h = false≢true h

join_and : (a b : Bool) → a ≡ true → b ≡ true → (a && b) ≡ true
join_and a b e f = ap (λ x. x && b) e ∙ f

not_lost : (b : Bool) → not b ≡ true → b ≡ false
not_lost true e = false≢true e
not_lost false e = refl

pub some : (n : ℕ) → (n == 0) ≡ false → 1 ≤ n
some zero e = false≢true (sym e)
some (suc n) e = omega arith

-- an entry agrees with itself, whether its segment is lost or not
agrees_self : (C : CatalogData) (L : Sites) (q : ℕ) (e : Place) → agrees C L q e e ≡ true
agrees_self C L q e = join_and (e.0 == e.0) (cond (lost C L q e.0 && not (e.1 == 0)) (nat_le 1 e.1) (e.1 == e.1)) (eq-eqb e.0 e.0 refl) (go (lost C L q e.0) (e.1 == 0) refl)
  where
    go : (b z : Bool) → (e.1 == 0) ≡ z → cond (b && not z) (nat_le 1 e.1) (e.1 == e.1) ≡ true
    go false z x = eq-eqb e.1 e.1 refl
    go true true x = eq-eqb e.1 e.1 refl
    go true false x = le-leb 1 e.1 (some e.1 x)

pub all_agree : (C : CatalogData) (L : Sites) (q : ℕ) (xs : List Place) → pointwise (agrees C L q) xs xs ≡ true
all_agree C L q [] = refl
all_agree C L q (x ∷ xs) = join_and (agrees C L q x x) (pointwise (agrees C L q) xs xs) (agrees_self C L q x) (all_agree C L q xs)

module _ (C : CatalogData) (cat : IsCatalog C) (layers : Layers C) (F G : FileContents) (L : Sites) (T : List Row) (h : HoldsSurvivors C F L T) (out : FileContents) (x : AreExpected C F L T out) (part : IsPartlyWritten C L out F G) where
  abbrev S : Contents
  S = x.contents

  same : AreContentsOf C L S T
  same = same_contents C cat layers F L h.contents S h.reads x.reads T h.same

  -- no surviving segment is written
  not_written : (p s : ℕ) → lost C L p s ≡ false → is_lost C L p s ≡ false
  not_written p s e = and_false (is_segment C p s) (lost C L p s) e

  stays : (n : FileName) → Survives C L n → out n ≡ None → G n ≡ F n
  stays n v none = go (part n v)
    where
      go : (G n ≡ F n) ⊎ (G n ≡ option_or (out n) (F n)) → G n ≡ F n
      go (inl e) = e
      go (inr e) = e ∙ ap (λ o. option_or o (F n)) none

  segment_stays : (p s : ℕ) → Survives C L (FileName.Seg p s) → G (FileName.Seg p s) ≡ F (FileName.Seg p s)
  segment_stays p s v = stays (FileName.Seg p s) v (x.files (FileName.Seg p s) ∙ ap (λ b. when b (segment_text C p s (base_of C p (map (project C p) (rows_of C T p s))))) (not_written p s v.1))

  delta_stays : (p s : ℕ) → Survives C L (FileName.Seg p s) → G (FileName.Del p s) ≡ F (FileName.Del p s)
  delta_stays p s v = stays (FileName.Del p s) v (x.files (FileName.Del p s) ∙ ap (λ b. when b (delta_text (no_changes p s (length (rows_of C T p s))))) (not_written p s v.1))

  -- the entries of a surviving join index: those that it had, or those that were written
  record HasEntries (p s q : ℕ) : Type 0 where
    pub entries : List Place
    pub file : IsJoinOf G p s q entries
    pub agree : pointwise (agrees C L q) entries (entries_for C L S T p s q) ≡ true

  entries_left : (p s q : ℕ) → Survives C L (FileName.Jix p s q) → HasEntries p s q
  entries_left p s q v = go (part (FileName.Jix p s q) v) (is_affected C L p s q) refl
    where
      old : G (FileName.Jix p s q) ≡ F (FileName.Jix p s q) → HasEntries p s q
      old e = record { entries = S.join p s q; file = join_under F G p s q (S.join p s q) e (x.reads.joins p s q v); agree = same.joins p s q v }

      go : (G (FileName.Jix p s q) ≡ F (FileName.Jix p s q)) ⊎ (G (FileName.Jix p s q) ≡ option_or (out (FileName.Jix p s q)) (F (FileName.Jix p s q))) → (b : Bool) → is_affected C L p s q ≡ b → HasEntries p s q
      go (inl e) b a = old e
      go (inr e) false a = old (e ∙ ap (λ o. option_or o (F (FileName.Jix p s q))) (x.files (FileName.Jix p s q) ∙ ap (λ b. when b (join_index_text p s q (entries_for C L S T p s q))) a))
      go (inr e) true a =
          let jix : out (FileName.Jix p s q) ≡ Some (join_index_text p s q (entries_for C L S T p s q)) = x.files (FileName.Jix p s q) ∙ ap (λ b. when b (join_index_text p s q (entries_for C L S T p s q))) a in
          record {
            entries = entries_for C L S T p s q;
            file = record {
              bytes = join_index_text p s q (entries_for C L S T p s q);
              has_file = e ∙ ap (λ o. option_or o (F (FileName.Jix p s q))) jix;
              file = entries_file C cat layers F L S x.reads T h.table h.fits same p s q v.0.0 ((cat.projections p v.0.0.0).joins q v.0.1).0;
            };
            agree = all_agree C L q (entries_for C L S T p s q);
          }

  -- the test whether a join index survives
  survives_test : ℕ → ℕ → ℕ → Bool
  survives_test p s q = is_segment C p s && (has_join C p q && not (lost C L p s))

  test_holds : (p s q : ℕ) → Survives C L (FileName.Jix p s q) → survives_test p s q ≡ true
  unfolding survives_test
  test_holds p s q v =
      join_and (is_segment C p s) (has_join C p q && not (lost C L p s))
      (join_and (nat_lt p (length C.projections)) (nat_lt s (segments C p)) (lt-ltb p (length C.projections) v.0.0.0) (lt-ltb s (segments C p) v.0.0.1))
      (join_and (has_join C p q) (not (lost C L p s)) v.0.1 (ap not v.1))

  holds_test : (p s q : ℕ) → survives_test p s q ≡ true → Survives C L (FileName.Jix p s q)
  unfolding survives_test
  holds_test p s q e =
      let a = split_and (is_segment C p s) (has_join C p q && not (lost C L p s)) e in
      let b = split_and (has_join C p q) (not (lost C L p s)) a.1 in
      ((segment_there C p s a.0, b.0), not_lost (lost C L p s) b.1)

  chosen : (p s q : ℕ) → (es : List Place) × (Survives C L (FileName.Jix p s q) → IsJoinOf G p s q es × (pointwise (agrees C L q) es (entries_for C L S T p s q) ≡ true))
  chosen p s q = go (survives_test p s q) refl
    where
      go : (b : Bool) → survives_test p s q ≡ b → (es : List Place) × (Survives C L (FileName.Jix p s q) → IsJoinOf G p s q es × (pointwise (agrees C L q) es (entries_for C L S T p s q) ≡ true))
      go true e = let y = entries_left p s q (holds_test p s q e) in (y.entries, λ v. (y.file, y.agree))
      go false e = ([], λ v. false≢true (sym e ∙ test_holds p s q v))

  abbrev left : Contents
  left = record { image = S.image; join = λ p s q. (chosen p s q).0 }

  left_reads : Reads C G L left
  left_reads = record {
    images = λ p s v. image_under C F G p s (S.image p s) (segment_stays p s v) (delta_stays p s v) (x.reads.images p s v);
    joins = λ p s q v. ((chosen p s q).1 v).0;
  }

  left_same : AreContentsOf C L left T
  left_same = record { images = λ p s v. same.images p s v; joins = λ p s q v. ((chosen p s q).1 v).1 }

  pub partly_holds : HoldsSurvivors C G L T
  partly_holds = record { table = h.table; fits = h.fits; contents = left; reads = left_reads; same = left_same }

  left_files : (n : FileName) → out n ≡ written C L left T n
  left_files (FileName.Seg p s) = x.files (FileName.Seg p s)
  left_files (FileName.Del p s) = x.files (FileName.Del p s)
  left_files (FileName.Jix p s q) = x.files (FileName.Jix p s q)

  pub partly_expected : AreExpected C G L T out
  partly_expected = record { contents = left; reads = left_reads; files = left_files }

-- ---- the answer

abbrev IsFiles : Result Files Fault → Type 0
IsFiles (Ok out) = Unit {0}
IsFiles (Err f) = ⊥

module _ (C : CatalogData) (cat : IsCatalog C) (layers : Layers C) (F G : FileContents) (L : Sites) where
  -- if other files hold the table of a verdict, it is their verdict too
  verdict_again : (T : List Row) → IsVerdict C F L (Ok T) → IsSafe C L → HoldsSurvivors C G L T → IsVerdict C G L (Ok T)
  verdict_again T (IsVerdict.bad_file n f b e) safe k = no_fault T f e
  verdict_again T (IsVerdict.contents S w r by e) safe k =
      let y = go C.safety by safe in
      IsVerdict.contents k.contents y.0 k.reads y.1 (sym y.2)
    where
      go : (rule : Safety) → IsWalkedBy rule C L S w → IsSafeBy rule C L → (u : Result (List Row) Stray) × IsWalkedBy rule C L k.contents u × (judged C L k.contents u ≡ Ok T)
      go Safety.Whole a s = (walked C k.contents a.0, (a.0, a.1, refl), judged_is C cat layers G L k.contents T a.0 k.reads k.table k.fits k.same a.1)
      go Safety.Rows a s = (walked_by_rows C L k.contents, refl, judged_by_rows C cat layers G L k.contents T k.reads k.table k.fits k.same s)

  rebuild_again : (T : List Row) → IsRebuildVerdict C F L (Ok T) → HoldsSurvivors C G L T → IsRebuildVerdict C G L (Ok T)
  rebuild_again T (IsRebuildVerdict.site n e) k = no_fault T Fault.Site e
  rebuild_again T (IsRebuildVerdict.unsafe n u e) k = no_fault T (Fault.Unsafe L) e
  rebuild_again T (IsRebuildVerdict.safe n s w) k = IsRebuildVerdict.safe n s (verdict_again T w s k)

  -- if some files of an answer were written, it still is the answer
  pub restarts : (out : Files) → IsRebuildAnswer C F L (Ok out) → IsPartlyWritten C L (contents_of out) F G → IsRebuildAnswer C G L (Ok out) × ((r : Result Files Fault) → IsRebuildAnswer C G L r → IsOrMemory (Ok out) r)
  restarts out a part = (again, λ r x. only (same_answer C cat layers G L r (Ok out) x again))
    where
      again : IsRebuildAnswer C G L (Ok out)
      again =
          let h = (only_table C cat layers F L a.0 a.1).2.0 in
          (a.0, rebuild_again a.0 a.1 (partly_holds C cat layers F G L a.0 h (contents_of out) a.2 part), partly_expected C cat layers F G L a.0 h (contents_of out) a.2 part)

      only : {r : Result Files Fault} → IsOrMemory (Ok out) r ⊎ (◌≡◌ {A = Result Files Fault} (Ok out) (Err Fault.Memory)) → IsOrMemory (Ok out) r
      only (inl x) = x
      only (inr e) = absurd (subst IsFiles e tt)
