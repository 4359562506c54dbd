-- The first bad file by name, by its body or by its digest.
use Rattle.std.proofs.Common.{◌≡◌, ℕ, List, refl, sym, ap, subst, ◌∙◌, inr, ◌-◌, ◌⊎◌, Some, None, Ordering}
use Rattle.std.specs.Ordering.{ordering_reverse}
use Rattle.std.specs.declared.cmp.Ordering.TheVariants.{Less, Equal, Greater}
use Rattle.std.proofs.lemmas.Option.{same_Some}
use Rattle.cs_schema.specs.declared.file_name.FileName.{FileName}
use Rattle.cs_schema.specs.CatalogData.{CatalogData}
use Rattle.cs_schema.specs.CatalogRules.{IsCatalog}
use Rattle.cs_schema.specs.FileNames.{FileContents, Survives, name_cmp, surviving}
use Rattle.cs_schema.specs.Losses.{Sites}
use Rattle.cs_schema.specs.NameOrder.{name_cmp_total, name_cmp-IsAntisymmetric}
use Rattle.cs_schema.proofs.Surviving.{surviving_names}
use Rattle.cs_store.specs.declared.fault.Fault.{Fault}
use Rattle.cs_segment.specs.SegmentFile.{sealed, segment_body}
use Rattle.cs_delta.specs.DeltaFile.{delta_body}
use Rattle.cs_jix.specs.JoinIndex.{join_index_body}
use Rattle.cs_recovery.specs.Claims.{SameSurvivors}
use Rattle.cs_recovery.specs.Verdicts.{IsSound, IsFirstBadFile}
use Rattle.cs_recovery.proofs.FewerSurvive.{image_under, join_under}
use Rattle.cs_rebuild.specs.Reading.{AreSealedAmong, IsFirstUnsealed, resealed}
use Rattle.cs_rebuild.specs.Steps.{AreBodiesSound, IsBadFile}
use Rattle.cs_rebuild.proofs.Names.{name_tail}
use Rattle.cs_rebuild.proofs.Sealing.{same_file}

-- if the digests of the surviving files are right, the files are as they were read
pub read_as_sealed : (C : CatalogData) → IsCatalog C → (F : FileContents) (L : Sites) → AreSealedAmong F (surviving C L) → SameSurvivors C L (resealed F) F
read_as_sealed C cat F L are n h = same_file F n (λ bytes e. are n bytes ((surviving_names C L cat n).1 h) e)

segment_first : (p s : ℕ) → name_cmp (FileName.Seg p s) (FileName.Del p s) ≡ Less
segment_first p s = name_tail (FileName.Seg p s) (FileName.Del p s) refl refl

-- whether a file is sound depends on its bytes, and for a delta also on those of its segment
sound_under : (C : CatalogData) (F G : FileContents) (n : FileName) → G n ≡ F n → ((p s : ℕ) → n ≡ FileName.Del p s → G (FileName.Seg p s) ≡ F (FileName.Seg p s)) → IsSound C F n → IsSound C G n
sound_under C F G (FileName.Seg p s) e f h = (h.0, h.1, e ∙ h.2, h.3)
sound_under C F G (FileName.Del p s) e f h = (h.0, image_under C F G p s h.0 (f p s refl) e h.1)
sound_under C F G (FileName.Jix p s q) e f h = (h.0, join_under F G p s q h.0 e h.1)

-- bytes that are not a sealed body are not a sound file
unsealed_bad : (C : CatalogData) (F : FileContents) (n : FileName) (bytes : List ℕ) → F n ≡ Some bytes → ((body : List ℕ) → bytes ≡ sealed body → ⊥) → IsSound C F n → ⊥
unsealed_bad C F (FileName.Seg p s) bytes e none h = none (segment_body C p s h.1) (same_Some bytes h.0 (sym e ∙ h.2) ∙ h.3.text)
unsealed_bad C F (FileName.Del p s) bytes e none h = none (delta_body h.1.changes) (same_Some bytes h.1.delta_bytes (sym e ∙ h.1.has_delta) ∙ h.1.delta_file.text)
unsealed_bad C F (FileName.Jix p s q) bytes e none h = none (join_index_body p s q h.0) (same_Some bytes h.1.bytes (sym e ∙ h.1.has_file) ∙ h.1.file.text)

-- some names, including each delta's segment, whose files are as they were read
module _ (C : CatalogData) (F : FileContents) (L : Sites) (Q : FileName → Type 0) (same : (m : FileName) → Q m → F m ≡ resealed F m) (with_segment : (p s : ℕ) → Q (FileName.Del p s) → Q (FileName.Seg p s)) where
  segment_same : (m : FileName) → Q m → (p s : ℕ) → m ≡ FileName.Del p s → F (FileName.Seg p s) ≡ resealed F (FileName.Seg p s)
  segment_same m q p s e = same (FileName.Seg p s) (with_segment p s (subst Q e q))

  file_sound : (m : FileName) → Q m → IsSound C (resealed F) m → IsSound C F m
  file_sound m q = sound_under C (resealed F) F m (same m q) (segment_same m q)

  body_sound : (m : FileName) → Q m → IsSound C F m → IsSound C (resealed F) m
  body_sound m q = sound_under C F (resealed F) m (sym (same m q)) (λ p s e. sym (segment_same m q p s e))

  -- the first bad body is the first bad file
  bad_body : (n : FileName) (f : Fault) → Q n → ((m : FileName) → Survives C L m → name_cmp m n ≡ Less → Q m) → IsFirstBadFile C (resealed F) L n f → IsBadFile C F L f
  bad_body n f q lesser bad = (
    n,
    record {
      survives = bad.survives;
      bad = λ h. bad.bad (body_sound n q h);
      fault = subst (λ o. ((o ≡ None) × (f ≡ Fault.Missing n)) ⊎ (((bytes : List ℕ) × (o ≡ Some bytes)) × (f ≡ Fault.Damaged n))) (sym (same n q)) bad.fault;
      before = λ m v less. file_sound m (lesser m v less) (bad.before m v less);
    },
  )

-- if each digest is right
pub sealed_bad : (C : CatalogData) → IsCatalog C → (F : FileContents) (L : Sites) → AreSealedAmong F (surviving C L) → (f : Fault) → IsBadFile C (resealed F) L f → IsBadFile C F L f
sealed_bad C cat F L are f bad = bad_body C F L (Survives C L) (read_as_sealed C cat F L are) (λ p s v. v) bad.0 f bad.1.survives (λ m v less. v) bad.1

module _ (C : CatalogData) (cat : IsCatalog C) (F : FileContents) (L : Sites) (name : FileName) (first : IsFirstUnsealed F (surviving C L) name) where
  abbrev Before : FileName → Type 0
  Before m = Survives C L m × (name_cmp m name ≡ Less)

  same_before : (m : FileName) → Before m → F m ≡ resealed F m
  same_before m b = same_file F m (λ bytes e. first.before m bytes ((surviving_names C L cat m).1 b.0) b.1 e)

  segment_before : (p s : ℕ) → Before (FileName.Del p s) → Before (FileName.Seg p s)
  segment_before p s b = (b.0, name_cmp_total.trans (FileName.Seg p s) (FileName.Del p s) name (segment_first p s) b.1)

  -- the file with the wrong digest is the first bad one if the bodies before it are sound
  digest_first : ((m : FileName) → Before m → IsSound C (resealed F) m) → IsBadFile C F L (Fault.Damaged name)
  digest_first sound = (
    name,
    record {
      survives = (surviving_names C L cat name).0 first.named;
      bad = unsealed_bad C F name first.bytes first.there first.unsealed;
      fault = inr ((first.bytes, first.there), refl);
      before = λ m v less. file_sound C F L Before same_before segment_before m (v, less) (sound m (v, less));
    },
  )

  pub digest_bad : AreBodiesSound C L F → IsBadFile C F L (Fault.Damaged name)
  digest_bad sound = digest_first (λ m b. sound m b.0)

  module _ (n : FileName) (f : Fault) (bad : IsFirstBadFile C (resealed F) L n f) where
    -- a bad body before the wrong digest is the first bad file
    pub body_first : name_cmp n name ≡ Less → IsBadFile C F L f
    body_first less = bad_body C F L Before same_before segment_before n f (bad.survives, less) (λ m v before. (v, name_cmp_total.trans m n name before less)) bad

    -- otherwise the file with the wrong digest is
    pub digest_before : (name_cmp n name ≡ Less → ⊥) → IsBadFile C F L (Fault.Damaged name)
    digest_before not_less = digest_first (λ m b. bad.before m b.0 (before m b.1 (name_cmp n name) refl))
      where
        before : (m : FileName) → name_cmp m name ≡ Less → (o : Ordering) → name_cmp n name ≡ o → name_cmp m n ≡ Less
        before m less Less e = absurd (not_less e)
        before m less Equal e = subst (λ x. name_cmp m x ≡ Less) (sym (name_cmp-IsAntisymmetric n name e)) less
        before m less Greater e = name_cmp_total.trans m name n less (name_cmp_total.antisymm name n ∙ ap ordering_reverse e)
