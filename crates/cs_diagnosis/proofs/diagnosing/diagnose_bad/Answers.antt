use Rattle.std.proofs.Common.{◌≡◌, ◌↔◌, ℕ, List, subst}
use Rattle.std.specs.Prelude.{IsTrue}
use Rattle.std.proofs.lemmas.Result.{IfOk-weaker}
use Rattle.cs_schema.specs.declared.file_name.FileName.{FileName}
use Rattle.cs_schema.specs.CatalogData.{CatalogData}
use Rattle.cs_schema.specs.FileNames.{FileContents}
use Rattle.cs_schema.specs.Lists.{member, IsIn}
use Rattle.cs_schema.specs.Losses.{Sites}
use Rattle.cs_store.specs.FileSet.{contents_of}
use Rattle.cs_inspection.specs.declared.badness.Badness.{Badness}
use Rattle.cs_inspection.specs.BadFiles.{AreBadFiles}
use Rattle.cs_inspection.specs.Laws.{AreAbsent}
use Rattle.cs_diagnosis.specs.Forced.{IsBadSite, AreTold}
use Rattle.cs_diagnosis.proofs.GoodFiles.{sound_beside, never_bad}
use Rattle.cs_diagnosis.proofs.diagnosing.diagnose_bad.Goals as goal

-- the sites of the listed files, for the list that a vector has
told : (C : CatalogData) (F : FileContents) (bad listed : List (FileName × Badness)) → listed ≡ bad → (sites : Sites) → ((x : ℕ) → IsTrue (member sites x) ↔ IsBadSite C listed x)
    → (unreadable : List FileName) → AreAbsent F unreadable → AreBadFiles C F unreadable bad → AreTold C F unreadable bad sites
told C F bad listed same sites are unreadable absent list = record {
  absent = absent;
  list = list;
  sites_are = λ x. subst (λ l. IsTrue (member sites x) ↔ IsBadSite C l x) same (are x);
}

pub bad_sites-first-requires : goal.bad_sites-first-requires
bad_sites-first-requires g c b i = (c.requires.bad.2.each b.0 b.1 (subst (IsIn b) c.as_slice.ensures.value i)).0

pub unreachable-requires : goal.unreachable-requires
unreachable-requires g c =
    let C = c.args.catalog.now in
    let F = contents_of c.args.files.now in
    let it = told C F c.args.bad.items c.as_slice.result.now c.as_slice.ensures.value c.bad_sites-first.result c.bad_sites-first.ensures c.requires.bad.0 c.requires.bad.1 c.requires.bad.2 in
    never_bad C F c.bad_sites-first.result c.in-Err.fault (sound_beside C F c.requires.bad.0 c.args.bad.items it.list c.bad_sites-first.result it.sites_are) c.in-Err.ensures.bad c.in_default.not-Memory

pub diagnose_read-requires-clause-read : goal.diagnose_read-requires-clause-read
diagnose_read-requires-clause-read g c κs within =
    let C = c.args.catalog.now in
    let F = contents_of c.args.files.now in
    (F, c.requires.bad.0, c.in-Ok.ensures.ok, told C F c.args.bad.items c.as_slice.result.now c.as_slice.ensures.value c.bad_sites-first.result c.bad_sites-first.ensures c.requires.bad.0 c.requires.bad.1 c.requires.bad.2)

pub returns-in-Ok : goal.returns-in-Ok
returns-in-Ok g c =
    let C = c.args.catalog.now in
    let F = contents_of c.args.files.now in
    IfOk-weaker c.diagnose_read.result _ _ (λ d h unreadable absent list.
    h F unreadable c.in-Ok.ensures.ok (told C F c.args.bad.items c.as_slice.result.now c.as_slice.ensures.value c.bad_sites-first.result c.bad_sites-first.ensures unreadable absent list)) c.diagnose_read.ensures
