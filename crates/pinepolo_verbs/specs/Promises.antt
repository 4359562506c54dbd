-- What the verbs do, each by what the places, the store and the output say of one call.
use Rattle.std.specs.Prelude.{◌≡◌, ◌⊎◌, ℕ, Bool, false, List, [], Option, MatchOption, Ok, is_some}
use Rattle.std.specs.FinMap.{entries}
use Rattle.cs_schema.specs.CatalogData.{CatalogData}
use Rattle.cs_schema.specs.FileNames.{surviving}
use Rattle.cs_schema.specs.Losses.{Sites}
use Rattle.cs_schema.specs.declared.file_name.FileName.{FileName}
use Rattle.cs_store.specs.FileSet.{Files, contents_of}
use Rattle.cs_store.specs.Load.{Loads}
use Rattle.cs_store.specs.LoadReadable.{LoadsReadable}
use Rattle.cs_store.specs.Save.{Saves}
use Rattle.cs_store.specs.declared.fault.StoreFault.{StoreFault}
use Rattle.cs_recovery.specs.Claims.{IsRebuildAnswer}
use Rattle.cs_diagnosis.specs.Diagnoses.{IsDiagnosis}
use Rattle.cs_diagnosis.specs.Disputed.{AreAllDisputes}
use Rattle.pinepolo_answers.specs.OnlyLoss.{AreFatalBeside}
use Rattle.pinepolo_answers.specs.declared.diagnosed.Diagnosed.{Diagnosed}
use Rattle.cs_reports.specs.Design.{IsDesign}
use Rattle.pinepolo_answers.specs.declared.designed.Designed.{Designed}
use Rattle.cs_manifest.specs.Lines.{catalog_path}
use Rattle.cs_manifest.specs.declared.manifest.Manifest.{Manifest}
use Rattle.pinepolo_places.specs.Finding.{FindsCatalog, FindsStore, FindsStoreText, LooksUp}
use Rattle.cs_verifying.specs.Trust.{is_changed, gives_trusted, refuses_trusted, MayReadManifest}
use Rattle.cs_shelf.specs.declared.work.WorkKind.{WorkKind}
use Rattle.pinepolo_verbs.specs.Changed.{AreChanged}

-- the store at this path was found, and the manifest says no other digest of its catalog
pub record FindsTrusted {P S : Type 0} (reads : P → List ℕ → List ℕ → P → Type 0) (opens : P → List ℕ → CatalogData → S → Type 0) (m : Manifest) (s : P) (path : List ℕ) (C : CatalogData) (store : S) (t : P) : Type 0 where
  pub catalog : List ℕ
  pub finds : FindsStoreText reads opens s path C catalog store t
  pub same : is_changed m catalog_path catalog ≡ false

-- the diagnosis of these files of a store, where each two of its tables differ, what is fatal beside its only loss, and which of
-- the files that could not be read the manifest shows to be changed
pub record IsDiagnosed {S : Type 0} (C : CatalogData) (m : Manifest) (gives : S → FileName → Option (List ℕ) → S → Type 0) (refuses : S → FileName → StoreFault → S → Type 0)
    (store : S) (files : Files) (unreadable : List FileName) (at_most : Option ℕ) (disputes : ℕ) (diagnosed : Diagnosed) : Type 0 where
  pub catalog : diagnosed.catalog ≡ C
  pub diagnosis : IsDiagnosis C (contents_of files) unreadable at_most diagnosed.diagnosis
  pub disputed : AreAllDisputes C diagnosed.diagnosis.tables.items disputes diagnosed.disputes.items
  pub fatal : AreFatalBeside C diagnosed.diagnosis diagnosed.fatal.items
  pub changed : AreChanged C m gives refuses store unreadable diagnosed.changed.items

module _ {P S : Type 0} (reads : P → List ℕ → List ℕ → P → Type 0) (opens : P → List ℕ → CatalogData → S → Type 0) (gives : S → FileName → Option (List ℕ) → S → Type 0) where
  -- The manifest was read, if one was asked for. The store at this path was found, and each of its files read that the manifest
  -- trusts; this is what is said of what could be read and is trusted.
  pub record DiagnosesStore {I : Type 0} (refuses : S → FileName → StoreFault → S → Type 0) (opens_table : P → List ℕ → I → P → Type 0) (remaining : I → Option (List ℕ)) (leaves : P → List ℕ → Option WorkKind → Type 0)
      (s : P) (path : List ℕ) (manifest_path : Option (List ℕ)) (at_most : Option ℕ) (disputes : ℕ) (diagnosed : Diagnosed) (t : P) : Type 0 where
    pub catalog : CatalogData
    pub files : Files
    pub unreadable : List FileName
    pub manifest : Manifest
    pub reached : P
    pub store : S
    pub left : S
    pub reads_manifest : MayReadManifest opens_table remaining s manifest_path manifest reached
    pub finds : FindsTrusted reads opens manifest reached path catalog store t
    pub loads : LoadsReadable (gives_trusted manifest gives) (refuses_trusted manifest gives refuses) (surviving catalog []) store files unreadable left
    pub is : IsDiagnosed catalog manifest gives refuses left files unreadable at_most disputes diagnosed
    pub unfinished : leaves t path diagnosed.unfinished

  -- the store at this path was loaded without the lost sites, and its rebuild answered these files
  pub record RebuildsStore (s : P) (path : List ℕ) (L : Sites) (rebuilt : Files) (t : P) : Type 0 where
    pub catalog : CatalogData
    pub files : Files
    pub store : S
    pub left : S
    pub finds : FindsStore reads opens s path catalog store t
    pub loads : Loads gives (surviving catalog L) store files left
    pub answer : IsRebuildAnswer catalog (contents_of files) L (Ok rebuilt)

-- an output was asked for
abbrev pub AsksForOutput : {P K : Type 0} → (P → List ℕ → K → P → Type 0) → (P → List ℕ → StoreFault → P → Type 0) → P → List ℕ → P → Type 0
AsksForOutput {P} {K} makes denies s path t = ((output : K) × makes s path output t) ⊎ ((fault : StoreFault) × denies s path fault t)

-- the output was made, and the files were put there in order and marked
pub record WritesOutput {P K : Type 0} (makes : P → List ℕ → K → P → Type 0) (takes : K → FileName → List ℕ → K → Type 0) (marks : K → ℕ → K → Type 0) (s : P) (path : List ℕ) (files : Files) (t : P) : Type 0 where
  pub output : K
  pub marked : K
  pub made : makes s path output t
  pub saved : Saves takes marks (entries files) output marked

module _ {P S K : Type 0} (reads : P → List ℕ → List ℕ → P → Type 0) (opens : P → List ℕ → CatalogData → S → Type 0) (gives : S → FileName → Option (List ℕ) → S → Type 0) (makes : P → List ℕ → K → P → Type 0) where
  -- A recovery stopped: nothing was asked for but the store, or it was rebuilt, and then alone the output was asked for.
  abbrev pub StopsRecovery : (misses denies : P → List ℕ → StoreFault → P → Type 0) → P → List ℕ → Sites → List ℕ → P → Type 0
  StopsRecovery misses denies s path L output_path t =
      LooksUp reads misses s path t ⊎ ((rebuilt : Files) × (reached : P) × RebuildsStore reads opens gives s path L rebuilt reached × AsksForOutput makes denies reached output_path t)

  -- The store was rebuilt; then the output was made, and the rebuilt files were put there in order and marked.
  pub record RecoversStore (takes : K → FileName → List ℕ → K → Type 0) (marks : K → ℕ → K → Type 0) (s : P) (path : List ℕ) (L : Sites) (output_path : List ℕ) (rebuilt : Files) (t : P) : Type 0 where
    pub reached : P
    pub rebuilds : RebuildsStore reads opens gives s path L rebuilt reached
    pub writes : WritesOutput makes takes marks reached output_path rebuilt t

-- a picture was written to the path that was asked for; if there is none, nothing was done
abbrev pub IsWritten : {P : Type 0} → (P → List ℕ → List ℕ → P → Type 0) → P → Option (List ℕ) → P → Type 0
IsWritten draws s path t = MatchOption path (t ≡ s) (λ p. (bytes : List ℕ) × draws s p bytes t)

-- that was done, and the answer has a picture just if it is to be printed
pub record IsDrawn {P : Type 0} (draws : P → List ℕ → List ℕ → P → Type 0) (s : P) (path : Option (List ℕ)) (prints has_picture : Bool) (t : P) : Type 0 where
  pub written : IsWritten draws s path t
  pub printed : has_picture ≡ prints

-- the catalog at this path was read, and this is what it says of losses; then its picture was written or is to be printed, if one was asked for
pub record DesignsCatalog {P : Type 0} (reads : P → List ℕ → List ℕ → P → Type 0) (draws : P → List ℕ → List ℕ → P → Type 0) (s : P) (path : List ℕ) (lost : Sites) (svg : Option (List ℕ)) (prints : Bool) (designed : Designed) (t : P) : Type 0 where
  pub catalog : CatalogData
  pub reached : P
  pub found : FindsCatalog reads s path catalog reached
  pub is : IsDesign catalog lost designed.design
  pub drawn : IsDrawn draws reached svg prints (is_some designed.picture) t
