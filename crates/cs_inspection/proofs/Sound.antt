-- Bad files are unsound, and what survives an accepted loss is sound.
use Rattle.std.proofs.Common.{◌≡◌, ◌⊎◌, inl, inr, ℕ, ◌<◌, List, Some, length, Bool, true, false, refl, sym, subst, ◌∙◌}
use Rattle.std.proofs.lemmas.Option.{same_Some}
use Rattle.cs_schema.specs.declared.file_name.FileName.{FileName}
use Rattle.cs_schema.specs.Lists.{member}
use Rattle.cs_schema.specs.CatalogData.{CatalogData}
use Rattle.cs_schema.specs.CatalogRules.{IsCatalog}
use Rattle.cs_schema.specs.Losses.{Sites}
use Rattle.cs_schema.specs.FileNames.{FileContents, HasName, Survives}
use Rattle.cs_segment.specs.SegmentFile.{Base, IsSegmentFile}
use Rattle.cs_segment.proofs.OneText.{one_segment}
use Rattle.cs_delta.specs.DeltaFile.{DeltaData, IsDeltaFile, CanMerge, merged}
use Rattle.cs_delta.specs.Image.{ImageData}
use Rattle.cs_delta.proofs.HeadTexts.{one_delta}
use Rattle.cs_recovery.specs.Conflicts.{site_of}
use Rattle.cs_recovery.specs.Contents.{IsImageOf, Reads}
use Rattle.cs_recovery.specs.Verdicts.{IsSound}
use Rattle.cs_inspection.specs.declared.badness.Badness.{Badness}
use Rattle.cs_inspection.specs.BadFiles.{IsBad, IsGood, IsDamaged, IsFileOf, IsPair, IsListed, AreBadFiles}
use Rattle.cs_inspection.specs.Laws.{AreAbsent, BadFilesAreUnsound, SoundFilesAreGood, BadFilesTellSoundOnes, BadSitesAreForced}
use Rattle.cs_inspection.proofs.OneState.{none_there}

has_file : (C : CatalogData) (F : FileContents) (n : FileName) → IsSound C F n → (bytes : List ℕ) × (F n ≡ Some bytes) × IsFileOf C n bytes
has_file C F (FileName.Seg p s) (bytes, base, e, f) = (bytes, e, (base, f))
has_file C F (FileName.Del p s) (m, i) = (i.delta_bytes, i.has_delta, (i.changes, i.delta_file))
has_file C F (FileName.Jix p s q) (entries, j) = (j.bytes, j.has_file, (entries, j.file))

module _ (C : CatalogData) (cat : IsCatalog C) (F : FileContents) where
  -- the two files of a merged image are the pair
  merges : (p s : ℕ) → p < length C.projections → (base : Base) (changes : DeltaData) → IsPair C F p s base changes → (m : ImageData) → IsImageOf C F p s m → CanMerge base changes
  merges p s here base changes a m i =
      let bytes : i.segment_bytes ≡ a.segment_bytes = same_Some i.segment_bytes a.segment_bytes (sym i.has_segment ∙ a.has_segment) in
      let texts : i.delta_bytes ≡ a.delta_bytes = same_Some i.delta_bytes a.delta_bytes (sym i.has_delta ∙ a.has_delta) in
      let bases : i.base ≡ base = one_segment C cat p s here a.segment_bytes i.base base (subst (λ x. IsSegmentFile C p s x i.base) bytes i.segment_file) a.segment_file in
      let deltas : i.changes ≡ changes = one_delta C p s a.delta_bytes i.changes changes (subst (λ x. IsDeltaFile C p s x i.changes) texts i.delta_file) a.delta_file in
      subst (λ b. CanMerge b changes) bases (subst (λ d. CanMerge i.base d) deltas i.can_merge)

  damaged_unsound : (n : FileName) (bytes : List ℕ) → HasName C n → F n ≡ Some bytes → IsDamaged C F n bytes → IsSound C F n → ⊥
  damaged_unsound n bytes h there (IsDamaged.no_file none) sound =
      let f = has_file C F n sound in none (subst (IsFileOf C n) (same_Some f.0 bytes (sym f.1 ∙ there)) f.2)
  damaged_unsound n bytes h there (IsDamaged.unmerged p s base changes e pair apart) sound =
      let named : HasName C (FileName.Del p s) = subst (HasName C) e h in
      let image : IsSound C F (FileName.Del p s) = subst (IsSound C F) e sound in
      apart (merges p s named.0 base changes pair image.0 image.1)

  module _ (unreadable : List FileName) (absent : AreAbsent F unreadable) where
    bad_unsound : (n : FileName) (why : Badness) → HasName C n → IsBad C F unreadable n why → IsSound C F n → ⊥
    bad_unsound n why h (IsBad.unreadable i e) sound = none_there (sym (absent n i) ∙ (has_file C F n sound).1)
    bad_unsound n why h (IsBad.missing r none e) sound = none_there (sym none ∙ (has_file C F n sound).1)
    bad_unsound n why h (IsBad.damaged r bytes there d e) sound = damaged_unsound n bytes h there d sound

    good : (n : FileName) → HasName C n → IsSound C F n → IsGood C F unreadable n
    good n h sound =
        let f = has_file C F n sound in
        record {
          readable = λ i. none_there (sym (absent n i) ∙ f.1);
          bytes = f.0;
          there = f.1;
          undamaged = record {
            file = f.2;
            merges = λ p s base changes e pair.
                let named : HasName C (FileName.Del p s) = subst (HasName C) e h in
                let image : IsSound C F (FileName.Del p s) = subst (IsSound C F) e sound in
                merges p s named.0 base changes pair image.0 image.1;
          };
        }

    module _ (bad : List (FileName × Badness)) (b : AreBadFiles C F unreadable bad) where
      listed_unsound : (n : FileName) → IsListed n bad → IsSound C F n → ⊥
      listed_unsound n (why, i) sound = let it = b.each n why i in bad_unsound n why it.0 it.1 sound

      -- a delta is sound if it and its segment are good
      delta_sound : (p s : ℕ) → IsGood C F unreadable (FileName.Seg p s) → IsGood C F unreadable (FileName.Del p s) → IsSound C F (FileName.Del p s)
      delta_sound p s g d =
          let base = g.undamaged.file.0 in
          let changes = d.undamaged.file.0 in
          let can = d.undamaged.merges p s base changes refl (record { segment_bytes = g.bytes; delta_bytes = d.bytes; has_segment = g.there; has_delta = d.there; segment_file = g.undamaged.file.1; delta_file = d.undamaged.file.1 }) in
          (merged base changes, record { segment_bytes = g.bytes; delta_bytes = d.bytes; base = base; changes = changes; has_segment = g.there; has_delta = d.there; segment_file = g.undamaged.file.1; delta_file = d.undamaged.file.1; can_merge = can; image = refl })

      -- a delta is unsound if its segment is bad
      delta_unsound : (p s : ℕ) → IsListed (FileName.Seg p s) bad → IsSound C F (FileName.Del p s) → ⊥
      delta_unsound p s l (m, i) = listed_unsound (FileName.Seg p s) l (i.segment_bytes, i.base, i.has_segment, i.segment_file)

      tells : (n : FileName) → HasName C n → IsListed n bad ⊎ IsGood C F unreadable n → IsSound C F n ⊎ ¬ IsSound C F n
      tells n h (inl l) = inr (listed_unsound n l)
      tells (FileName.Seg p s) h (inr g) = inl (g.bytes, g.undamaged.file.0, g.there, g.undamaged.file.1)
      tells (FileName.Jix p s q) h (inr g) = inl (g.undamaged.file.0, record { bytes = g.bytes; has_file = g.there; file = g.undamaged.file.1 })
      tells (FileName.Del p s) h (inr g) = go (b.others (FileName.Seg p s) h)
        where
          go : IsListed (FileName.Seg p s) bad ⊎ IsGood C F unreadable (FileName.Seg p s) → IsSound C F (FileName.Del p s) ⊎ ¬ IsSound C F (FileName.Del p s)
          go (inl l) = inr (delta_unsound p s l)
          go (inr k) = inl (delta_sound p s k g)

pub survivor_sound : (C : CatalogData) (F : FileContents) (L : Sites) (n : FileName) → Survives C L n → ((S : _) × Reads C F L S) → IsSound C F n
survivor_sound C F L (FileName.Seg p s) v (S, r) = let m = r.images p s v in (m.segment_bytes, m.base, m.has_segment, m.segment_file)
survivor_sound C F L (FileName.Del p s) v (S, r) = (S.image p s, r.images p s v)
survivor_sound C F L (FileName.Jix p s q) v (S, r) = (S.join p s q, r.joins p s q v)

pub unsound : BadFilesAreUnsound
unsound C cat F unreadable absent n why h b = bad_unsound C cat F unreadable absent n why h b

pub sound_good : SoundFilesAreGood
sound_good C cat F unreadable absent n h sound = good C cat F unreadable absent n h sound

pub tell : BadFilesTellSoundOnes
tell C cat F unreadable bad absent b n h = tells C cat F unreadable absent bad b n h (b.others n h)

pub forced : BadSitesAreForced
forced C cat F unreadable absent n why h b L T a = go (member L (site_of C n)) refl
  where
    go : (x : Bool) → member L (site_of C n) ≡ x → member L (site_of C n) ≡ true
    go true e = e
    go false e = absurd (bad_unsound C cat F unreadable absent n why h b (survivor_sound C F L n (h, e) (a.holds.contents, a.holds.reads)))
