-- A store that was built holds the table of its rows, and each safe loss of it is recovered to the same files.
use Rattle.std.proofs.Common.{◌≡◌, ℕ, ◌<◌, ◌+◌, List, map, refl, sym, ap, subst, ◌∙◌, Bool, true, false, cond, ◌&&◌, ◌||◌, not, Option, Some, None, length, arith, Result, Ok, Err}
use Rattle.std.specs.Prelude.{nat_lt, slice_index}
use Rattle.std.specs.List.{slice_get}
use Rattle.std.specs.Option.{option_and_then, option_map_or, option_or}
use Rattle.std.proofs.lemmas.Option.{none-some}
use borrow.Author.Tests.{lt-ltb}
use Rattle.cs_store.specs.declared.fault.Fault.{Fault}
use Rattle.cs_store.specs.FileSet.{Files, contents_of}
use Rattle.cs_schema.specs.declared.file_name.FileName.{FileName}
use Rattle.cs_schema.specs.CatalogData.{CatalogData, HasSegment, projection, segments, has_join}
use Rattle.cs_schema.specs.CatalogRules.{IsCatalog}
use Rattle.cs_schema.specs.FileNames.{FileContents, HasName, Survives, projection_of, segment_of}
use Rattle.cs_schema.specs.Lists.{IsIn, numbers_below}
use Rattle.cs_schema.specs.Losses.{Sites, IsLoss, lost, alive}
use Rattle.cs_schema.specs.Order.{Fits, rows_of, index_of}
use Rattle.cs_schema.specs.Rows.{Row, IsRow, IsTable, project, segment_of_row}
use Rattle.cs_schema.proofs.Ascending.{false≢true}
use Rattle.cs_schema.proofs.Lists.{in_member, member_at, range_in}
use Rattle.cs_segment.specs.SegmentFile.{segment_text, base_of}
use Rattle.cs_delta.specs.DeltaFile.{delta_text, no_changes}
use Rattle.cs_delta.specs.Image.{ImageData, image_keys, position_of_key, fresh_image}
use Rattle.cs_jix.specs.JoinIndex.{Place, join_index_text, no_place}
use Rattle.cs_safety.specs.Safety.{IsSafe}
use Rattle.cs_safety.proofs.AliveLemmas.{segment_below}
use Rattle.cs_rows.specs.Walk.{Contents}
use Rattle.cs_order.specs.Tables.{table_of, is_twice}
use Rattle.cs_recovery.specs.BuildAnswers.{every_site, no_files, build_fault, IsBuildAnswer, IsBuiltAgain, BuildClauses}
use Rattle.cs_recovery.specs.Claims.{SameSurvivors, IsRebuildAnswer, IsRecovered, put_over}
use Rattle.cs_recovery.specs.Contents.{IsImageOf, Reads}
use Rattle.cs_recovery.specs.Expected.{AreExpected, is_segment, is_lost, is_affected}
use Rattle.cs_recovery.specs.Holding.{AreContentsOf, HoldsSurvivors, Holds}
use Rattle.cs_recovery.specs.Places.{image_after, place_of, entries_for}
use Rattle.cs_recovery.specs.Tables.{when}
use Rattle.cs_recovery.specs.Verdicts.{twice, full}
use Rattle.cs_recovery.proofs.Clauses.{answer_recovers}
use Rattle.cs_recovery.proofs.Exact.{Layers}
use Rattle.cs_recovery.proofs.FewerSurvive.{image_under}
use Rattle.cs_recovery.proofs.Judged.{full_fits}
use Rattle.cs_recovery.proofs.Losses.{held_rest}
use Rattle.cs_recovery.proofs.TableFacts.{has_the_rows}
use Rattle.cs_recovery.proofs.Whole.{left_image, whole_again}

-- ---- every site is lost

first_none : {X : Type 0} (a b : Option X) → option_or a b ≡ None → (a ≡ None) × (b ≡ None)
first_none None b e = (refl, e)
first_none (Some x) b e = absurd (none-some x (sym e))

not_when : {X : Type 0} (b : Bool) (x : X) → when b x ≡ None → b ≡ false
not_when true x e = absurd (none-some x (sym e))
not_when false x e = refl

or_none : {X : Type 0} (o : Option X) → option_or o None ≡ o
or_none None = refl
or_none (Some x) = refl

of_segment : (C : CatalogData) (n : FileName) → HasName C n → HasSegment C (projection_of n) (segment_of n)
of_segment C (FileName.Seg p s) h = h
of_segment C (FileName.Del p s) h = h
of_segment C (FileName.Jix p s q) h = h.0

module _ (C : CatalogData) (cat : IsCatalog C) where
  pub all_lost : (p s : ℕ) → HasSegment C p s → lost C (every_site C) p s ≡ true
  all_lost p s h =
      let long : s < length (projection C p).sites = omega (arith, (cat.projections p h.0).sites, h.1) in
      let x : ℕ = slice_index (projection C p).sites s in
      let range = (cat.projections p h.0).site_range x (member_at (projection C p).sites s 0 long) in
      in_member (every_site C) x (range_in 1 C.sites x range.0 (omega (arith, range.1)))

  pub none_survives : (n : FileName) → Survives C (every_site C) n → ⊥
  none_survives n v = false≢true (sym v.1 ∙ all_lost (projection_of n) (segment_of n) (of_segment C n v.0))

  exists_test : (p s : ℕ) → HasSegment C p s → is_segment C p s ≡ true
  exists_test p s h = ap (λ b. b && nat_lt s (segments C p)) (lt-ltb p (length C.projections) h.0) ∙ lt-ltb s (segments C p) h.1

  lost_test : (L : Sites) (p s : ℕ) → HasSegment C p s → is_lost C L p s ≡ lost C L p s
  lost_test L p s h = ap (λ b. b && lost C L p s) (exists_test p s h)

  affected_test : (L : Sites) (p s q : ℕ) → HasSegment C p s → has_join C p q ≡ true → is_affected C L p s q ≡ (lost C L p s || not (alive C L q))
  affected_test L p s q h d = ap (λ b. b && has_join C p q && (lost C L p s || not (alive C L q))) (exists_test p s h) ∙ ap (λ b. b && (lost C L p s || not (alive C L q))) d

  -- nothing survives that could contradict a table
  pub nothing_same : (S : Contents) (T : List Row) → AreContentsOf C (every_site C) S T
  nothing_same S T = record {
    images = λ p s v. absurd (none_survives (FileName.Seg p s) v);
    joins = λ p s q v. absurd (none_survives (FileName.Jix p s q) v);
  }

  pub nothing_read : (F : FileContents) (S : Contents) → Reads C F (every_site C) S
  nothing_read F S = record {
    images = λ p s v. absurd (none_survives (FileName.Seg p s) v);
    joins = λ p s q v. absurd (none_survives (FileName.Jix p s q) v);
  }

  module _ (layers : Layers C) (T : List Row) (t : IsTable C T) (fits : Fits C T) (built : FileContents) (x : AreExpected C no_files (every_site C) T built) where
    pub built_holds : Holds C built T
    built_holds =
        let nothing : HoldsSurvivors C no_files (every_site C) T = record { table = t; fits = fits; contents = x.contents; reads = x.reads; same = nothing_same x.contents T } in
        subst (λ G. Holds C G T) (λ i n. or_none (built n) i) (whole_again C cat layers no_files (every_site C) T nothing built x)

    abbrev fresh : ℕ → ℕ → ImageData
    fresh p s = fresh_image (map (project C p) (rows_of C T p s))

    after_built : (p s : ℕ) → HasSegment C p s → image_after C (every_site C) x.contents T p s ≡ fresh p s
    after_built p s h = ap (λ b. cond b (fresh p s) (x.contents.image p s)) (all_lost p s h)

    built_image : (p s : ℕ) → HasSegment C p s → IsImageOf C built p s (fresh p s)
    built_image p s h =
        subst (λ G. IsImageOf C G p s (fresh p s)) (λ i n. or_none (built n) i)
        (subst (IsImageOf C (put_over built no_files) p s) (after_built p s h) (left_image C cat layers no_files (every_site C) x.contents x.reads T t fits (nothing_same x.contents T) built x.files p s h))

    module _ (G : FileContents) (L : Sites) (same : SameSurvivors C L built G) (again : FileContents) (y : AreExpected C G L T again) where
      -- an image after the recovery is as it was built, whether kept or fresh
      after_is : (p s : ℕ) → HasSegment C p s → image_after C L y.contents T p s ≡ fresh p s
      after_is p s h = go (lost C L p s) refl
        where
          go : (b : Bool) → lost C L p s ≡ b → image_after C L y.contents T p s ≡ fresh p s
          go true e = ap (λ b. cond b (fresh p s) (y.contents.image p s)) e
          go false e =
              ap (λ b. cond b (fresh p s) (y.contents.image p s)) e
              ∙ layers.one_image G p s h (y.contents.image p s) (fresh p s) (y.reads.images p s (h, e))
              (image_under C built G p s (fresh p s) (same (FileName.Seg p s) (h, e)) (same (FileName.Del p s) (h, e)) (built_image p s h))

      same_after : (p s : ℕ) → HasSegment C p s → image_after C L y.contents T p s ≡ image_after C (every_site C) x.contents T p s
      same_after p s h = after_is p s h ∙ sym (after_built p s h)

      same_place : (q : ℕ) → q < length C.projections → (r : Row) → place_of C L y.contents T q r ≡ place_of C (every_site C) x.contents T q r
      same_place q h r =
          let t : ℕ = segment_of_row C q r in
          ap (λ m. (t, option_map_or (λ i. slice_index (image_keys m) i) (index_of C T q r) 0)) (same_after q t (h, segment_below C q r))

      same_entries : (p s q : ℕ) → HasSegment C p s → q < length C.projections → entries_for C L y.contents T p s q ≡ entries_for C (every_site C) x.contents T p s q
      same_entries p s q h k =
          let J : ImageData → (Row → Place) → List Place = λ m f. map (λ i. option_map_or f (option_and_then (slice_get (rows_of C T p s)) (position_of_key m (i + 1))) no_place) (numbers_below m.top) in
          let a = same_after p s h in
          let b = same_place q k in
          λ i. J (a i) (λ r. b r i)

      -- with the recovered files put over the others, each file is as it was built
      put_same : (n : FileName) (a b : Bool) (text other : List ℕ) → again n ≡ when a other → built n ≡ when b text → other ≡ text → b ≡ true → (a ≡ false → G n ≡ built n) → put_over again G n ≡ built n
      put_same n true b text other e f one t kept = ap (λ o. option_or o (G n)) e ∙ ap (λ w. Some w) one ∙ sym (f ∙ ap (λ c. when c text) t)
      put_same n false b text other e f one t kept = ap (λ o. option_or o (G n)) e ∙ kept refl

      pub built_again : (n : FileName) → HasName C n → put_over again G n ≡ built n
      built_again (FileName.Seg p s) h =
          let text : List ℕ = segment_text C p s (base_of C p (map (project C p) (rows_of C T p s))) in
          put_same (FileName.Seg p s) (is_lost C L p s) (is_lost C (every_site C) p s) text text (y.files (FileName.Seg p s)) (x.files (FileName.Seg p s)) refl (lost_test (every_site C) p s h ∙ all_lost p s h)
          (λ e. same (FileName.Seg p s) (h, sym (lost_test L p s h) ∙ e))
      built_again (FileName.Del p s) h =
          let text : List ℕ = delta_text (no_changes p s (length (rows_of C T p s))) in
          put_same (FileName.Del p s) (is_lost C L p s) (is_lost C (every_site C) p s) text text (y.files (FileName.Del p s)) (x.files (FileName.Del p s)) refl (lost_test (every_site C) p s h ∙ all_lost p s h)
          (λ e. same (FileName.Del p s) (h, sym (lost_test L p s h) ∙ e))
      built_again (FileName.Jix p s q) h =
          let hq : q < length C.projections = ((cat.projections p h.0.0).joins q h.1).0 in
          put_same (FileName.Jix p s q) (is_affected C L p s q) (is_affected C (every_site C) p s q) (join_index_text p s q (entries_for C (every_site C) x.contents T p s q)) (join_index_text p s q (entries_for C L y.contents T p s q))
          (y.files (FileName.Jix p s q)) (x.files (FileName.Jix p s q)) (ap (join_index_text p s q) (same_entries p s q h.0 hq))
          (affected_test (every_site C) p s q h.0 h.1 ∙ ap (λ b. b || not (alive C (every_site C) q)) (all_lost p s h.0))
          (λ e. same (FileName.Jix p s q) (h, not_lost (lost C L p s) (alive C L q) (sym (affected_test L p s q h.0 h.1) ∙ e)))
        where
          not_lost : (a b : Bool) → (a || not b) ≡ false → a ≡ false
          not_lost true b e = false≢true (sym e)
          not_lost false b e = refl

  -- ---- the answers

  module _ (layers : Layers C) (rows : List Row) (are : (row : Row) → IsIn row rows → IsRow C row) where
    pub has_once : build_fault C rows ≡ None → is_twice C rows ≡ false
    has_once none = not_when (is_twice C rows) Fault.Twice (first_none (twice C rows) (full C (table_of C rows)) none).0

    pub built_table : build_fault C rows ≡ None → IsTable C (table_of C rows)
    built_table none = (has_the_rows C rows are (has_once none)).table

    pub built_fits : build_fault C rows ≡ None → Fits C (table_of C rows)
    built_fits none = full_fits C (table_of C rows) (first_none (twice C rows) (full C (table_of C rows)) none).1

    module _ (out : Files) (none : build_fault C rows ≡ None) (x : AreExpected C no_files (every_site C) (table_of C rows) (contents_of out)) where
      recovered : (G : FileContents) (L : Sites) (s : Result Files Fault) → IsLoss C L → IsSafe C L → SameSurvivors C L (contents_of out) G → IsRebuildAnswer C G L s → IsBuiltAgain C (contents_of out) G s
      recovered G L s loss safe same a =
          let T : List Row = table_of C rows in
          let held : HoldsSurvivors C G L T = held_rest C cat layers (contents_of out) G L T (built_holds layers T (built_table none) (built_fits none) (contents_of out) x) same in
          go s (answer_recovers C cat layers G L s a T (λ n m. (loss.1 n m).1) safe held)
        where
          go : (s : Result Files Fault) → IsRecovered C G L (table_of C rows) s → IsBuiltAgain C (contents_of out) G s
          go (Ok again) y = built_again layers (table_of C rows) (built_table none) (built_fits none) (contents_of out) x G L same (contents_of again) y
          go (Err e) m = m

    pub build_clauses : (r : Result Files Fault) → IsBuildAnswer C rows r → BuildClauses C rows r
    build_clauses (Ok out) a =
        let has = has_the_rows C rows are (has_once a.0) in
        record {
          table = (has.table, λ row. (has.members row).0, λ row. (has.members row).1);
          holds = built_holds layers (table_of C rows) has.table (built_fits a.0) (contents_of out) a.1;
          recovered = recovered out a.0 a.1;
        }
    build_clauses (Err e) a = record { table = tt; holds = tt; recovered = tt }
