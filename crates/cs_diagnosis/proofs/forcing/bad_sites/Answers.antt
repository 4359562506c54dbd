use Rattle.std.proofs.Common.{◌≡◌, ◌⊎◌, ℕ, ◌<◌, ◌≤◌, ◌==◌, Bool, true, false, ◌||◌, List, length, refl, sym, ap, subst, ◌∙◌, arith, inl, inr, Some, get_or, eqb-true, eq-eqb}
use Rattle.std.specs.Prelude.{IsTrue}
use Rattle.std.specs.List.{slice_get}
use Rattle.std.proofs.lemmas.Bool.{cases_lt}
use Rattle.std.proofs.lemmas.Option.{same_Some, slice_get-get_or, slice_get_within}
use Rattle.cs_schema.specs.declared.file_name.FileName.{FileName}
use Rattle.cs_schema.specs.CatalogData.{CatalogData}
use Rattle.cs_schema.specs.FileNames.{HasName}
use Rattle.cs_schema.specs.Lists.{member, IsIn}
use Rattle.cs_schema.proofs.Ascending.{false≢true}
use Rattle.cs_schema.proofs.Lists.{in_at, at_in}
use Rattle.cs_recovery.specs.Conflicts.{site_of}
use Rattle.cs_inspection.specs.declared.badness.Badness.{Badness}
use Rattle.cs_diagnosis.proofs.forcing.bad_sites.Goals as goal

either_one : (a b : Bool) → (a || b) ≡ true → (a ≡ true) ⊎ (b ≡ true)
either_one true b e = inl refl
either_one false b e = inr e

first : (a b : Bool) → a ≡ true → (a || b) ≡ true
first true b e = refl
first false b e = absurd (false≢true e)

second : (a b : Bool) → b ≡ true → (a || b) ≡ true
second true b e = refl
second false b e = e

-- the file at an index has a name of the catalog
named : (C : CatalogData) (bad : List (FileName × Badness)) (i : ℕ) → i < length bad → ((b : FileName × Badness) → IsIn b bad → HasName C b.0) → HasName C (get_or bad i (FileName.Seg 0 0, Badness.Unreadable)).0
named C bad i h names = names (get_or bad i (FileName.Seg 0 0, Badness.Unreadable)) (in_at bad i (get_or bad i (FileName.Seg 0 0, Badness.Unreadable)) (slice_get-get_or bad i (FileName.Seg 0 0, Badness.Unreadable) h))

pub site_of-requires : goal.site_of-requires
site_of-requires c = named c.args.catalog.now c.args.bad.now c.loop-file.file-index (omega (arith, c.loop-file-test.true)) c.requires

pub loop-file-preserved : goal.loop-file-preserved
loop-file-preserved c =
    let C = c.args.catalog.now in
    let bad = c.args.bad.now in
    let i = c.loop-file.file-index in
    let file : FileName × Badness = get_or bad i (FileName.Seg 0 0, Badness.Unreadable) in
    let at : slice_get bad i ≡ Some file = slice_get-get_or bad i (FileName.Seg 0 0, Badness.Unreadable) (omega (arith, c.loop-file-test.true)) in
    record {
      bad = λ x m.
          elim (either_one (x == c.site_of.result) (member c.loop-file.sites x) (sym (c.with-sites.ensures.members x) ∙ m)) [
            | inl e ↦ (file, in_at bad i file at, eqb-true x c.site_of.result e ∙ c.site_of.ensures.site)
            | inr e ↦ c.loop-file.invariant.bad x e
          ];
      each = λ k b l g.
          elim (cases_lt k i) [
            | inl below ↦ c.with-sites.ensures.members (site_of C b.0) ∙ second (site_of C b.0 == c.site_of.result) (member c.loop-file.sites (site_of C b.0)) (c.loop-file.invariant.each k b below g)
            | inr above ↦
                (let same : i ≡ k = omega (arith, l, above) in
                let it = same_Some file b (sym at ∙ ap (slice_get bad) same ∙ g) in
                c.with-sites.ensures.members (site_of C b.0) ∙ first (site_of C b.0 == c.site_of.result) (member c.loop-file.sites (site_of C b.0)) (eq-eqb (site_of C b.0) c.site_of.result (sym (c.site_of.ensures.site ∙ ap (λ (f : FileName × Badness). site_of C f.0) it))))
          ];
    }

pub returns : goal.returns
returns c x = (
  λ m. c.loop-file.invariant.bad x m,
  λ b.
      let place = at_in c.args.bad.now b.0 b.1 in
      let low = slice_get_within c.args.bad.now place.0 b.0 place.1 in
      subst (λ y. IsTrue (member c.loop-file.sites y)) (sym b.2) (c.loop-file.invariant.each place.0 b.0 (omega (arith, low, c.loop-file-test.false)) place.1),
)
