-- Every file outside the sites of the bad ones is sound.
use Rattle.std.proofs.Common.{◌≡◌, ◌⊎◌, inl, inr, ◌↔◌, ◌≤◌, ℕ, List, Bool, Some, None, true, false, not, refl, sym, ap, subst, ◌∙◌, arith}
use Rattle.std.specs.Prelude.{IsTrue}
use Rattle.cs_schema.specs.declared.file_name.FileName.{FileName}
use Rattle.cs_schema.specs.CatalogData.{CatalogData}
use Rattle.cs_schema.specs.CatalogRules.{IsCatalog}
use Rattle.cs_schema.specs.FileNames.{FileContents, HasName, Survives, surviving}
use Rattle.cs_schema.proofs.Surviving.{surviving_names}
use Rattle.cs_schema.specs.Lists.{member, IsIn}
use Rattle.cs_schema.specs.Losses.{Sites}
use Rattle.cs_schema.proofs.Ascending.{false≢true}
use Rattle.std.proofs.lemmas.Option.{none-some, same_Some}
use Rattle.cs_segment.specs.SegmentFile.{Base, IsSegmentFile}
use Rattle.cs_segment.proofs.OneText.{one_segment}
use Rattle.cs_delta.specs.DeltaFile.{DeltaData, IsDeltaFile, CanMerge, merged}
use Rattle.cs_delta.proofs.HeadTexts.{one_delta}
use Rattle.cs_rows.specs.Survivors.{SurvivorsData, contents_of}
use Rattle.cs_store.specs.Fault.{MemoryOr}
use Rattle.cs_store.specs.declared.fault.Fault.{Fault}
use Rattle.cs_recovery.specs.Conflicts.{site_of}
use Rattle.cs_recovery.specs.Verdicts.{IsSound}
use Rattle.cs_inspection.specs.declared.badness.Badness.{Badness}
use Rattle.cs_inspection.specs.BadFiles.{IsPair, IsGood, IsListed, AreBadAmong, AreBadFiles}
use Rattle.cs_inspection.specs.Laws.{AreAbsent}
use Rattle.cs_rebuild.specs.Steps.{AreRead, IsBadFile}
use Rattle.cs_diagnosis.specs.Forced.{IsBadSite, AreTold, LacksFileOn}
use Rattle.cs_diagnosis.proofs.Diagnosed.{site_in_range}

module _ (C : CatalogData) (F : FileContents) (unreadable : List FileName) (bad : List (FileName × Badness)) (list : AreBadFiles C F unreadable bad) (sites : Sites) (are : (x : ℕ) → IsTrue (member sites x) ↔ IsBadSite C bad x) where
  good : (n : FileName) → HasName C n → member sites (site_of C n) ≡ false → IsGood C F unreadable n
  good n h kept = go (list.others n h)
    where
      go : IsListed n bad ⊎ IsGood C F unreadable n → IsGood C F unreadable n
      go (inl (why, i)) = false≢true (sym kept ∙ (are (site_of C n)).1 ((n, why), i, refl))
      go (inr g) = g

  pub sound_beside : (n : FileName) → Survives C sites n → IsSound C F n
  sound_beside (FileName.Seg p s) (h, kept) = let g = good (FileName.Seg p s) h kept in (g.bytes, g.undamaged.file.0, g.there, g.undamaged.file.1)
  sound_beside (FileName.Jix p s q) (h, kept) = let g = good (FileName.Jix p s q) h kept in (g.undamaged.file.0, record { bytes = g.bytes; has_file = g.there; file = g.undamaged.file.1 })
  sound_beside (FileName.Del p s) (h, kept) =
      let g = good (FileName.Seg p s) h kept in
      let d = good (FileName.Del p s) h kept in
      let base = g.undamaged.file.0 in
      let changes = d.undamaged.file.0 in
      let can = d.undamaged.merges p s base changes refl (record { segment_bytes = g.bytes; delta_bytes = d.bytes; has_segment = g.there; has_delta = d.there; segment_file = g.undamaged.file.1; delta_file = d.undamaged.file.1 }) in
      (merged base changes, record { segment_bytes = g.bytes; delta_bytes = d.bytes; base = base; changes = changes; has_segment = g.there; has_delta = d.there; segment_file = g.undamaged.file.1; delta_file = d.undamaged.file.1; can_merge = can; image = refl })

-- no file outside these sites is bad
pub never_bad : (C : CatalogData) (F : FileContents) (sites : Sites) (f : Fault) → ((n : FileName) → Survives C sites n → IsSound C F n) → MemoryOr f (IsBadFile C F sites f) → (f ≡ Fault.Memory → ⊥) → ⊥
never_bad C F sites f sound (inl memory) other = other memory
never_bad C F sites f sound (inr (n, bad)) other = bad.bad (sound n bad.survives)

-- ---- if the files outside some sites were read, each of them is good

module _ (C : CatalogData) (cat : IsCatalog C) (F : FileContents) (unreadable : List FileName) (absent : AreAbsent F unreadable) (first : Sites) (v : SurvivorsData) (read : AreRead C F first v) where
  -- a file that exists is not unreadable
  readable : (n : FileName) (bytes : List ℕ) → F n ≡ Some bytes → IsIn n unreadable → ⊥
  readable n bytes there i = none-some bytes (sym (absent n i) ∙ there)

  merges : (p s : ℕ) → Survives C first (FileName.Seg p s) → (base : Base) (changes : DeltaData) → IsPair C F p s base changes → CanMerge base changes
  merges p s h base changes a =
      let i = read.reads.images p s h in
      let bytes : i.segment_bytes ≡ a.segment_bytes = same_Some i.segment_bytes a.segment_bytes (sym i.has_segment ∙ a.has_segment) in
      let texts : i.delta_bytes ≡ a.delta_bytes = same_Some i.delta_bytes a.delta_bytes (sym i.has_delta ∙ a.has_delta) in
      let bases : i.base ≡ base = one_segment C cat p s h.0.0 a.segment_bytes i.base base (subst (λ x. IsSegmentFile C p s x i.base) bytes i.segment_file) a.segment_file in
      let deltas : i.changes ≡ changes = one_delta C p s a.delta_bytes i.changes changes (subst (λ x. IsDeltaFile C p s x i.changes) texts i.delta_file) a.delta_file in
      subst (λ b. CanMerge b changes) bases (subst (λ d. CanMerge i.base d) deltas i.can_merge)

  no_delta : {A : Type 0} (p s p' s' : ℕ) → FileName.Seg p s ≡ FileName.Del p' s' → A
  no_delta p s p' s' e = absurd (cc e)

  no_join : {A : Type 0} (p s q p' s' : ℕ) → FileName.Jix p s q ≡ FileName.Del p' s' → A
  no_join p s q p' s' e = absurd (cc e)

  is_good : (n : FileName) → Survives C first n → IsGood C F unreadable n
  is_good (FileName.Seg p s) h =
      let i = read.reads.images p s h in record {
        readable = readable (FileName.Seg p s) i.segment_bytes i.has_segment;
        bytes = i.segment_bytes;
        there = i.has_segment;
        undamaged = record { file = (i.base, i.segment_file); merges = λ p' s' base changes e. no_delta p s p' s' e };
      }
  is_good (FileName.Jix p s q) h =
      let j = read.reads.joins p s q h in record {
        readable = readable (FileName.Jix p s q) j.bytes j.has_file;
        bytes = j.bytes;
        there = j.has_file;
        undamaged = record { file = ((contents_of v).join p s q, j.file); merges = λ p' s' base changes e. no_join p s q p' s' e };
      }
  is_good (FileName.Del p s) h =
      let i = read.reads.images p s h in record {
        readable = readable (FileName.Del p s) i.delta_bytes i.has_delta;
        bytes = i.delta_bytes;
        there = i.has_delta;
        undamaged = record {
          file = (i.changes, i.delta_file);
          merges = λ p' s' base changes e pair. merges p' s' (subst (Survives C first) e h) base changes pair;
        };
      }

  module _ (lacks : LacksFileOn C F first) (rest : Sites) (rest_is : (x : ℕ) → 1 ≤ x → x ≤ 16 → member rest x ≡ not (member first x)) (bad : List (FileName × Badness)) (among : AreBadAmong C F unreadable (surviving C rest) bad) where
    named : (n : FileName) → IsIn n (surviving C rest) ↔ Survives C rest n
    named = surviving_names C rest cat

    -- a file on the first sites is inspected, and any other was read
    looked_at : (n : FileName) → HasName C n → member first (site_of C n) ≡ true → IsIn n (surviving C rest)
    looked_at n h here =
        let r = site_in_range C cat n h in
        let high = r.1 in
        (named n).1 (h, rest_is (site_of C n) r.0 (let most = cat.site_range.1 in omega (arith, high, most)) ∙ ap not here)

    on_first : (n : FileName) → Survives C rest n → member first (site_of C n) ≡ true
    on_first n h =
        let r = site_in_range C cat n h.0 in
        let high = r.1 in
        go (member first (site_of C n)) refl (sym (rest_is (site_of C n) r.0 (let most = cat.site_range.1 in omega (arith, high, most))) ∙ h.1)
      where
        go : (b : Bool) → member first (site_of C n) ≡ b → not (member first (site_of C n)) ≡ false → member first (site_of C n) ≡ true
        go true e f = e
        go false e f = false≢true (sym f ∙ ap not e)

    is_listed : (n : FileName) → HasName C n → member first (site_of C n) ≡ true → F n ≡ None → IsListed n bad
    is_listed n h here none = go (among.others n (looked_at n h here))
      where
        go : IsListed n bad ⊎ IsGood C F unreadable n → IsListed n bad
        go (inl l) = l
        go (inr g) = absurd (none-some g.bytes (sym none ∙ g.there))

    pub told_beside : AreTold C F unreadable bad first
    told_beside = record {
      absent = absent;
      list = record {
        each = λ n why i. let it = among.each n why i in (((named n).0 it.0).0, it.1);
        others = λ n h. by_site n h (member first (site_of C n)) refl;
        in_order = among.in_order;
      };
      sites_are = λ x. (
        λ m. let n = lacks x m in let l = is_listed n.0 n.1 (subst (λ y. member first y ≡ true) n.3 m) n.2 in ((n.0, l.0), l.1, n.3),
        λ b. subst (λ y. IsTrue (member first y)) (sym b.2) (on_first b.0.0 ((named b.0.0).0 (among.each b.0.0 b.0.1 b.1).0)),
      );
    }
      where
        by_site : (n : FileName) → HasName C n → (b : Bool) → member first (site_of C n) ≡ b → IsListed n bad ⊎ IsGood C F unreadable n
        by_site n h true e = among.others n (looked_at n h e)
        by_site n h false e = inr (is_good n (h, e))
