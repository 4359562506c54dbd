-- The search and the bad files make a diagnosis.
use Rattle.std.proofs.Common.{◌≡◌, ℕ, ◌+◌, ◌≤◌, ◌⊎◌, inl, inr, ◌↔◌, List, [], length, sym, ap, subst, ◌<◌, ◌∙◌, arith}
use Rattle.std.specs.Prelude.{IsTrue, Option}
use Rattle.std.proofs.lemmas.Option.{same_Some}
use Rattle.cs_schema.specs.declared.file_name.FileName.{FileName}
use Rattle.cs_schema.specs.CatalogData.{CatalogData, projection, segments}
use Rattle.cs_schema.specs.CatalogRules.{IsCatalog}
use Rattle.cs_schema.specs.FileNames.{FileContents, HasName, projection_of, segment_of}
use Rattle.cs_schema.specs.Lists.{member, IsIn}
use Rattle.cs_schema.specs.Losses.{Sites, IsSites, IsLoss}
use Rattle.cs_schema.specs.Rows.{Row}
use Rattle.cs_schema.proofs.Lists.{member_at}
use Rattle.cs_safety.specs.Safety.{IsSafe}
use Rattle.cs_safety.specs.Within.{IsWithin}
use Rattle.cs_recovery.specs.AcceptedLosses.{IsAcceptedLoss}
use Rattle.cs_recovery.specs.Conflicts.{site_of}
use Rattle.cs_recovery.specs.Holding.{HoldsSurvivors}
use Rattle.cs_recovery.proofs.ChangedSites.{changed_corrected}
use Rattle.cs_recovery.proofs.Read.{layers}
use Rattle.cs_inspection.specs.declared.badness.Badness.{Badness}
use Rattle.cs_inspection.specs.BadFiles.{AreBadFiles}
use Rattle.cs_inspection.specs.Laws.{AreAbsent}
use Rattle.cs_inspection.proofs.Sound.{forced}
use Rattle.cs_diagnosis.specs.declared.findings.Explanation.{Explanation}
use Rattle.cs_diagnosis.specs.declared.findings.Verdict.{Verdict}
use Rattle.cs_diagnosis.specs.Explanations.{IsAccepted, AreForced, HaveOneTable, AcceptanceGrows}
use Rattle.cs_diagnosis.specs.Findings.{IsTableAt, AreExplanations, IsVerdict}
use Rattle.cs_diagnosis.specs.Laws.{IsTrueVerdict}
use Rattle.cs_diagnosis.proofs.AcceptedLosses.{as_accepted, as_searched, grow, diagnosed}
use Rattle.cs_diagnosis.specs.Forced.{IsBadSite}
use Rattle.cs_diagnosis.specs.Reach.{IsReach}
use Rattle.cs_diagnosis.specs.Diagnoses.{rows_found, WereChanged, IsDiagnosis}
use Rattle.cs_diagnosis.specs.declared.diagnosing.Diagnosis.{Diagnosis}

-- the site of a file is a site of the catalog
pub site_in_range : (C : CatalogData) → IsCatalog C → (n : FileName) → HasName C n → (1 ≤ site_of C n) × (site_of C n ≤ C.sites)
site_in_range C cat n name = go (segment_exists n name)
  where
    segment_exists : (n : FileName) → HasName C n → (projection_of n < length C.projections) × (segment_of n < segments C (projection_of n))
    segment_exists (FileName.Seg p s) h = h
    segment_exists (FileName.Del p s) h = h
    segment_exists (FileName.Jix p s q) h = h.0

    go : (projection_of n < length C.projections) × (segment_of n < segments C (projection_of n)) → (1 ≤ site_of C n) × (site_of C n ≤ C.sites)
    go h =
        let P = cat.projections (projection_of n) h.0 in
        P.site_range (site_of C n) (member_at (projection C (projection_of n)).sites (segment_of n) 0 (omega (arith, h.1, P.sites)))

module _ (C : CatalogData) (cat : IsCatalog C) (F : FileContents) (unreadable : List FileName) (absent : AreAbsent F unreadable) (bad : List (FileName × Badness)) (list : AreBadFiles C F unreadable bad) (sites : Sites) (are : (x : ℕ) → IsTrue (member sites x) ↔ IsBadSite C bad x) where
  pub are_forced : AreForced C (HoldsSurvivors C F) sites
  are_forced L T a x m =
      let b = (are x).0 m in
      let here = list.each b.0.0 b.0.1 b.1 in
      subst (λ y. IsTrue (member L y)) (sym b.2) (forced C cat F unreadable absent b.0.0 b.0.1 here.0 here.1 L T (as_accepted C F L T a))

  pub are_loss : IsSites sites → IsLoss C sites
  are_loss s = (s.0, λ x m. let b = (are x).0 m in subst (λ y. (1 ≤ y) × (y ≤ C.sites)) (sym b.2) (site_in_range C cat b.0.0 (list.each b.0.0 b.0.1 b.1).0))

  -- what changed sites leave
  module _ (s : IsSites sites) (m : ℕ) (T : List Row) (w : WereChanged C F sites m T) where
    small : length w.sites ≤ w.k
    small = omega (arith, w.few, w.fits)

    accepted : IsAcceptedLoss C F w.sites T
    accepted = (changed_corrected C cat (layers C cat) w.before F w.sites T w.changed).changed (w.safe w.sites w.changed.sites small)

    within : IsWithin sites w.sites
    within = are_forced w.sites T (as_searched C F w.sites T accepted)

    told : (v : Verdict) → IsVerdict C (HoldsSurvivors C F) (length sites + m) v → IsTrueVerdict C F (length sites + m) T v
    told v h = diagnosed C cat w.before F sites w.sites w.k m T w.safe w.changed (are_loss s) are_forced within w.few w.fits v h

    counted : (M : Sites) (U : List Row) → IsAcceptedLoss C F M U → length M ≤ length sites + m → U ≡ T
    counted M U a size = ((changed_corrected C cat (layers C cat) w.before F w.sites T w.changed).counted sites w.k m w.safe (are_loss s) within w.few w.fits).1 M U a (are_forced M U (as_searched C F M U a)) size

    module _ (at_most : ℕ) (reach : length sites + m ≤ at_most) where
      one_is_true : (v : Verdict) → IsVerdict C (HoldsSurvivors C F) at_most v → (v ≡ Verdict.Sound) ⊎ (v ≡ Verdict.OneTable) → IsTrueVerdict C F at_most T v
      one_is_true v (IsVerdict.sound U a e) one =
          let same = counted [] U (as_accepted C F [] U a) (omega arith) in
          IsTrueVerdict.sound (subst (IsAcceptedLoss C F []) same (as_accepted C F [] U a)) e
      one_is_true v (IsVerdict.one_table L U none l size all e) one =
          let same : T ≡ U = all w.sites T (as_searched C F w.sites T accepted) (omega (arith, w.few)) in
          IsTrueVerdict.one_table (λ M V a few. all M V (as_searched C F M V a) few ∙ sym same) e
      one_is_true v (IsVerdict.ambiguous L M U V l r small' small'' apart e) (inl o) = absurd (not_sound (sym e ∙ o))
        where
          not_sound : Verdict.Ambiguous ≡ Verdict.Sound → ⊥
          not_sound k = cc
      one_is_true v (IsVerdict.ambiguous L M U V l r small' small'' apart e) (inr o) = absurd (not_one (sym e ∙ o))
        where
          not_one : Verdict.Ambiguous ≡ Verdict.OneTable → ⊥
          not_one k = cc
      one_is_true v (IsVerdict.not_recoverable none e) one = absurd (none w.sites T (as_searched C F w.sites T accepted) (omega (arith, w.few)))

pub is_diagnosis : (C : CatalogData) → IsCatalog C → (F : FileContents) (unreadable : List FileName) → AreAbsent F unreadable → (asked : Option ℕ) (d : Diagnosis)
    → AreBadFiles C F unreadable d.bad.items → IsSites d.forced → ((x : ℕ) → IsTrue (member d.forced x) ↔ IsBadSite C d.bad.items x)
    → IsReach C (length d.forced) asked d.reach
    → AreExplanations C (HoldsSurvivors C F) d.reach.at_most rows_found d.explanations.items d.tables.items
    → (HaveOneTable C (HoldsSurvivors C F) → AcceptanceGrows C (HoldsSurvivors C F) → IsVerdict C (HoldsSurvivors C F) d.reach.at_most d.verdict)
    → IsDiagnosis C F unreadable asked d
is_diagnosis C cat F unreadable absent asked d list s are reach found verdict = record {
  list = list;
  sites = are;
  forced = are_forced C cat F unreadable absent d.bad.items list d.forced are;
  reach = reach;
  explanations = found;
  around = around;
  verdict = v;
  tells = λ m T w e. subst (λ n. IsTrueVerdict C F n T d.verdict) (sym e) (told C cat F unreadable absent d.bad.items list d.forced are s m T w d.verdict (subst (λ n. IsVerdict C (HoldsSurvivors C F) n d.verdict) e v));
  certain = λ m T w fits one. one_is_true C cat F unreadable absent d.bad.items list d.forced are s m T w d.reach.at_most fits d.verdict v one;
}
  where
    laws : HaveOneTable C (HoldsSurvivors C F) × AcceptanceGrows C (HoldsSurvivors C F)
    laws = grow C cat F

    v : IsVerdict C (HoldsSurvivors C F) d.reach.at_most d.verdict
    v = verdict laws.0 laws.1

    around : (e : Explanation) (T : List Row) (M : Sites) → IsIn e d.explanations.items → IsTableAt rows_found d.tables.items e.table T → IsWithin e.loss M → IsLoss C M → IsSafe C M → IsAcceptedLoss C F M T
    around e T M i t w loss safe =
        let f = (found.each e i).1 in
        let same : f.0 ≡ T = sym f.1.2 ∙ ap rows_found (same_Some f.1.0 t.0 (sym f.1.1 ∙ t.1)) ∙ t.2 in
        as_accepted C F M T (subst (λ U. IsAccepted C (HoldsSurvivors C F) M U) same (laws.1 e.loss M f.0 f.2.accepted w loss safe))
