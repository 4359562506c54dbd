-- Whether a delta and its sound segment merge determines whether the delta is damaged.
use Rattle.std.proofs.Common.{◌≡◌, ℕ, Bool, true, false, List, Some, Result, Ok, Err, IfOk, refl, sym, subst, ◌∙◌}
use Rattle.std.specs.Bool.{MatchBool}
use Rattle.std.proofs.lemmas.Option.{same_Some}
use Rattle.cs_schema.specs.declared.file_name.FileName.{FileName}
use Rattle.cs_schema.specs.CatalogData.{CatalogData}
use Rattle.cs_schema.specs.FileNames.{FileContents}
use Rattle.cs_segment.specs.SegmentFile.{Base, IsSegmentFile}
use Rattle.cs_segment.specs.SegmentData.{SegmentData}
use Rattle.cs_delta.specs.DeltaFile.{DeltaData, IsDeltaFile, CanMerge}
use Rattle.cs_inspection.specs.BadFiles.{IsDamaged, IsUndamaged, IsPair}
use Rattle.cs_inspection.specs.Held.{HoldsDelta, HasSoundSegment}

if_ok : {A E : Type 0} (r : Result A E) (P Q : A → Type 0) → ((a : A) → P a → Q a) → IfOk r P → IfOk r Q
if_ok (Ok a) P Q f p = f a p
if_ok (Err e) P Q f p = tt

module _ (C : CatalogData) (F : FileContents) (p s : ℕ) (bytes : List ℕ) (segment : SegmentData) (changes : DeltaData)
    (there : F (FileName.Del p s) ≡ Some bytes) (g : HasSoundSegment C F p s segment) (d : HoldsDelta C p s bytes changes) where
  -- these are the only pair under these names
  of_pair : (base : Base) (other : DeltaData) → IsPair C F p s base other → CanMerge segment.base changes → CanMerge base other
  of_pair base other pair can =
      let segments : pair.segment_bytes ≡ g.bytes = same_Some pair.segment_bytes g.bytes (sym pair.has_segment ∙ g.there) in
      let deltas : pair.delta_bytes ≡ bytes = same_Some pair.delta_bytes bytes (sym pair.has_delta ∙ there) in
      let bases = g.holds.only base (subst (λ x. IsSegmentFile C p s x base) segments pair.segment_file) in
      let others = d.only other (subst (λ x. IsDeltaFile C p s x other) deltas pair.delta_file) in
      subst (λ b. CanMerge b other) (sym bases) (subst (λ e. CanMerge segment.base e) (sym others) can)

  -- for any name that is this delta's
  of_name : (n : FileName) (q t : ℕ) (base : Base) (other : DeltaData) → FileName.Del p s ≡ FileName.Del q t → IsPair C F q t base other → CanMerge segment.base changes → CanMerge base other
  of_name n q t base other e pair can =
      let a : q ≡ p = cc in
      let b : t ≡ s = cc in
      of_pair base other (subst (λ x. IsPair C F x s base other) a (subst (λ x. IsPair C F q x base other) b pair)) can

  tells : (can : Bool) → MatchBool can (CanMerge segment.base changes) (¬ CanMerge segment.base changes)
      → MatchBool can (IsUndamaged C F (FileName.Del p s) bytes) (IsDamaged C F (FileName.Del p s) bytes)
  tells true can = record { file = (changes, d.file); merges = λ q t base other e pair. of_name (FileName.Del p s) q t base other e pair can }
  tells false apart = IsDamaged.unmerged p s segment.base changes refl (record { segment_bytes = g.bytes; delta_bytes = bytes; has_segment = g.there; has_delta = there; segment_file = g.holds.file; delta_file = d.file }) apart

  pub merge_tells : {E : Type 0} (r : Result Bool E) → IfOk r (λ can. MatchBool can (CanMerge segment.base changes) (¬ CanMerge segment.base changes))
      → IfOk r (λ is. MatchBool is (IsUndamaged C F (FileName.Del p s) bytes) (IsDamaged C F (FileName.Del p s) bytes))
  merge_tells r can = if_ok r _ _ tells can
