use Rattle.std.proofs.Common.{◌≡◌, ℕ, List, [], length, map, sym, ap, subst, ◌∙◌, Some, arith, get_or}
use Rattle.std.specs.List.{slice_get}
use Rattle.std.specs.Option.{unwrap_or}
use Rattle.std.proofs.lemmas.Option.{none-some, same_Some, get_or_from_slice_get}
use Rattle.cs_schema.specs.CatalogData.{CatalogData, HasSegment, has_join}
use Rattle.cs_segment.specs.SegmentData.{kinds_at}
use Rattle.cs_jix.specs.JoinIndex.{Place}
use Rattle.cs_schema.specs.CatalogRules.{IsCatalog}
use Rattle.cs_schema.specs.declared.file_name.FileName.{FileName}
use Rattle.cs_schema.specs.FileNames.{FileContents, Survives}
use Rattle.cs_schema.specs.Lists.{IsIn, numbers_below}
use Rattle.cs_schema.specs.Losses.{Sites}
use Rattle.cs_schema.proofs.Ascending.{filter_in}
use Rattle.cs_schema.proofs.Lists.{in_at, range_in}
use Rattle.cs_store.specs.FileSet.{contents_of}
use Rattle.cs_rows.specs.Survivors.{SurvivorsData, held}
use Rattle.cs_recovery.specs.Contents.{IsImageOf, IsJoinOf}
use Rattle.cs_recovery.specs.Verdicts.{surviving_segments}
use Rattle.cs_recovery.proofs.Judged.{in_survivors}
use Rattle.cs_rebuild.specs.Reading.{AreFilesOf, IsKept, AreOthersKept, resealed, joins_of}
use Rattle.cs_rebuild.specs.Steps.{AreRead}
use Rattle.cs_rebuild.proofs.Keeping.{popped, one_less, place_in, no_rest}
use Rattle.cs_rebuild.proofs.Numbers.{by_equal}
use Rattle.cs_rebuild.proofs.reading.FilesWork.keep_all.Goals as goal

-- what is stored of a segment stays, unless its own files are stored again
stays : (C : CatalogData) (F : FileContents) (v w : SurvivorsData) (a b : ℕ × ℕ) → IsKept C F w b → AreOthersKept v b w → IsKept C F v a → IsKept C F w a
stays C F v w a b new others old =
    by_equal a.0 b.0
    (λ e. by_equal a.1 b.1 (λ f. let same : a ≡ b = λ i. (e i, f i) in subst (IsKept C F w) (sym same) new) (λ n. unchanged (λ k. n k.1)))
    (λ n. unchanged (λ k. n k.0))
  where
    unchanged : ((a.0 ≡ b.0) × (a.1 ≡ b.1) → ⊥) → IsKept C F w a
    unchanged differ = record {
      image = (old.image.0, others.images a.0 a.1 differ ∙ old.image.1, old.image.2);
      joins = λ q i. let o = old.joins q i in (o.0, others.joins a.0 a.1 q differ ∙ o.1, o.2);
    }

-- if what the files of each surviving segment hold is stored, all was read
all_read : (C : CatalogData) → IsCatalog C → (F : FileContents) (L : Sites) (segments : List (ℕ × ℕ)) → ((a : ℕ × ℕ) → IsIn a (surviving_segments C L) → IsIn a segments) → (v : SurvivorsData) → v.catalog ≡ C
    → ((k : ℕ) (a : ℕ × ℕ) → slice_get segments k ≡ Some a → IsKept C F v a) → AreRead C F L v
all_read C cat F L segments are v catalog kept = record {
  reads = record {
    images = λ p s h. let k = kept_at p s h in subst (IsImageOf C F p s) (sym (ap held k.image.1)) k.image.2;
    joins = λ p s q h. let k = (kept_at p s (h.0.0, h.1)).joins q (declared p s q h) in subst (IsJoinOf F p s q) (sym (ap (λ o. unwrap_or o []) k.1)) k.2;
  };
  catalog = catalog;
  images_there = λ p s h none. let k = kept_at p s h in none-some k.image.0 (sym none ∙ k.image.1);
  joins_there = λ p s q h none. let k = (kept_at p s (h.0.0, h.1)).joins q (declared p s q h) in none-some k.0 (sym none ∙ k.1);
}
  where
    kept_at : (p s : ℕ) → Survives C L (FileName.Seg p s) → IsKept C F v (p, s)
    kept_at p s h = let k = place_in segments (p, s) (are (p, s) (in_survivors C L p s h)) in kept k.0 (p, s) k.1

    declared : (p s q : ℕ) → Survives C L (FileName.Jix p s q) → IsIn q (joins_of C p)
    declared p s q h =
        let below = ((cat.projections p h.0.0.0).joins q h.0.1).0 in
        filter_in (has_join C p) (numbers_below (length C.projections)) q (range_in 0 (length C.projections) q (omega arith) (omega (arith, below))) h.0.1

-- the files of the segment that is next
module _ (C : CatalogData) (F : FileContents) (segments : List (ℕ × ℕ)) (n len : ℕ) (e : len ≡ n) (out : Rattle.cs_rebuild.specs.declared.files_of.SegmentFiles.SegmentFiles) (a : ℕ × ℕ) (at : slice_get segments n ≡ Some a) where
  there : get_or segments len (0, 0) ≡ a
  there = ap (λ m. get_or segments m (0, 0)) e ∙ get_or_from_slice_get segments n a (0, 0) at

  turn : AreFilesOf C F a out → AreFilesOf C F (get_or segments len (0, 0)) out
  turn h = subst (λ x. AreFilesOf C F x out) (sym there) h

pub keep-requires-clause-exists : goal.keep-requires-clause-exists
keep-requires-clause-exists g c =
    let w = c.args.self.now in
    let segments = w.segments.now in
    let n = length c.pop.new.self.items in
    let last = popped c.args.all.items c.loop-held.all.items c.pop.new.self.items c.in-Some.held c.loop-held.invariant.rest c.in-Some.ensures.items in
    let files = c.requires.each n c.in-Some.held last.1 in
    let same = there w.catalog.now (resealed (contents_of w.files.now)) segments n c.len.result (omega (arith, c.len.ensures)) c.in-Some.held files.0 files.1 in
    subst (λ (D : CatalogData). HasSegment D (get_or segments c.len.result (0, 0)).0 (get_or segments c.len.result (0, 0)).1) (sym c.loop-held.invariant.catalog)
    (subst (λ (x : ℕ × ℕ). HasSegment w.catalog.now x.0 x.1) (sym same) (w.exist files.0 (in_at segments n files.0 files.1)))

-- what the files of the segment that is next hold
pub keep-requires-clause-kinds : goal.keep-requires-clause-kinds
keep-requires-clause-kinds g c =
    let w = c.args.self.now in
    let segments = w.segments.now in
    let n = length c.pop.new.self.items in
    let last = popped c.args.all.items c.loop-held.all.items c.pop.new.self.items c.in-Some.held c.loop-held.invariant.rest c.in-Some.ensures.items in
    let files = c.requires.each n c.in-Some.held last.1 in
    subst (λ (D : CatalogData). c.in-Some.held.image.kinds ≡ kinds_at D (get_or segments c.len.result (0, 0)).0) (sym c.loop-held.invariant.catalog)
    (turn w.catalog.now (resealed (contents_of w.files.now)) segments n c.len.result (omega (arith, c.len.ensures)) c.in-Some.held files.0 files.1 files.2).image.1

pub keep-requires-clause-targets : goal.keep-requires-clause-targets
keep-requires-clause-targets g c =
    let w = c.args.self.now in
    let segments = w.segments.now in
    let n = length c.pop.new.self.items in
    let last = popped c.args.all.items c.loop-held.all.items c.pop.new.self.items c.in-Some.held c.loop-held.invariant.rest c.in-Some.ensures.items in
    let files = c.requires.each n c.in-Some.held last.1 in
    subst (λ (D : CatalogData). map (λ (j : ℕ × List Place). j.0) c.in-Some.held.joins.items ≡ joins_of D (get_or segments c.len.result (0, 0)).0) (sym c.loop-held.invariant.catalog)
    (turn w.catalog.now (resealed (contents_of w.files.now)) segments n c.len.result (omega (arith, c.len.ensures)) c.in-Some.held files.0 files.1 files.2).targets

pub loop-held-preserved : goal.loop-held-preserved
loop-held-preserved g c =
    let w = c.args.self.now in
    let C = w.catalog.now in
    let F = resealed (contents_of w.files.now) in
    let segments = w.segments.now in
    let new = c.pop.new.self.items in
    let n = length new in
    let last = popped c.args.all.items c.loop-held.all.items new c.in-Some.held c.loop-held.invariant.rest c.in-Some.ensures.items in
    let less = one_less c.loop-held.all.items new c.in-Some.held c.in-Some.ensures.items in
    let files = c.requires.each n c.in-Some.held last.1 in
    let now = turn C F segments n c.len.result (omega (arith, c.len.ensures)) c.in-Some.held files.0 files.1 files.2 in
    let b : ℕ × ℕ = get_or segments c.len.result (0, 0) in
    let same : b ≡ files.0 = there C F segments n c.len.result (omega (arith, c.len.ensures)) c.in-Some.held files.0 files.1 in
    let own = c.loop-held.invariant.catalog in
    let kept = subst (λ D. AreFilesOf D F b c.in-Some.held → IsKept D F c.keep.new.survivors b) own (c.keep.ensures.kept F) now in
    record {
      rest = last.0;
      catalog = c.keep.ensures.catalog ∙ own;
      kept = λ k a low at.
          by_equal k n
          (λ e. let is : b ≡ a = same ∙ same_Some files.0 a (sym files.1 ∙ ap (slice_get segments) (sym e) ∙ at) in subst (IsKept C F c.keep.new.survivors) is kept)
          (λ m. stays C F c.loop-held.survivors c.keep.new.survivors a b kept c.keep.ensures.others (c.loop-held.invariant.kept k a (omega (arith, m, low, less)) at));
    }

pub returns-clause-ok : goal.returns-clause-ok
returns-clause-ok g c L are =
    let w = c.args.self.now in
    let none = (no_rest _ c.pop.result c.in_default.not-Some c.pop.ensures.cases).0 in
    all_read w.catalog.now w.rules (resealed (contents_of w.files.now)) L w.segments.now are c.loop-held.survivors c.loop-held.invariant.catalog (λ k a at. c.loop-held.invariant.kept k a (omega (arith, none)) at)
