-- What the verb `show` does, by what the places and the store say of one call.
use Rattle.std.specs.Prelude.{◌≡◌, ℕ, Bool, List, [], Option, Some, None, is_some}
use Rattle.cs_schema.specs.CatalogData.{CatalogData}
use Rattle.cs_schema.specs.FileNames.{surviving, HasName, file_path}
use Rattle.cs_schema.specs.declared.file_name.FileName.{FileName}
use Rattle.cs_store.specs.FileSet.{Files, contents_of}
use Rattle.cs_store.specs.LoadReadable.{LoadsReadable}
use Rattle.cs_store.specs.declared.fault.StoreFault.{StoreFault}
use Rattle.cs_inspection.specs.BadFiles.{AreBadFiles}
use Rattle.cs_inspection.specs.declared.badness.Badness.{Badness}
use Rattle.cs_reports.specs.Design.{IsDesign}
use Rattle.cs_file_decode.specs.Reports.{IsReportOf}
use Rattle.pinepolo_answers.specs.FileLines.{AreLines}
use Rattle.pinepolo_answers.specs.declared.answer.Answer.{Answer}
use Rattle.pinepolo_answers.specs.declared.answer.Answer.TheVariants.{Shown, ShownFile}
use Rattle.pinepolo_answers.specs.declared.store_view.StoreView.{StoreView}
use Rattle.pinepolo_answers.specs.declared.file_lines.FileLine.{FileLine}
use Rattle.pinepolo_answers.specs.declared.file_view.FileView.{FileView}
use Rattle.pinepolo_places.specs.Finding.{FindsStore}
use Rattle.pinepolo_verbs.specs.Promises.{IsDrawn}
use Rattle.cs_shelf.specs.declared.work.WorkKind.{WorkKind}

-- each file of the store was read, these are the bad ones, and this is said of each
pub record LooksOver {S : Type 0} (gives : S → FileName → Option (List ℕ) → S → Type 0) (refuses : S → FileName → StoreFault → S → Type 0) (C : CatalogData) (store : S) (bad : List (FileName × Badness)) (lines : List FileLine) (left : S) : Type 0 where
  pub files : Files
  pub unreadable : List FileName
  pub loads : LoadsReadable gives refuses (surviving C []) store files unreadable left
  pub inspected : AreBadFiles C (contents_of files) unreadable bad
  pub said : AreLines C (contents_of files) bad lines

module _ {P S : Type 0} (reads : P → List ℕ → List ℕ → P → Type 0) (opens : P → List ℕ → CatalogData → S → Type 0) (gives : S → FileName → Option (List ℕ) → S → Type 0) where
  -- The store at this path was found and its folder listed, and each of its files was read; these are the bad ones, this is said of each, and this is what its catalog says of losses. Its picture was written or is to be printed, if one was asked for.
  pub record ShowsStore (refuses : S → FileName → StoreFault → S → Type 0) (lists : P → List ℕ → List (List ℕ) → P → Type 0) (draws : P → List ℕ → List ℕ → P → Type 0) (leaves : P → List ℕ → Option WorkKind → Type 0) (s : P) (path : List ℕ) (svg : Option (List ℕ)) (prints : Bool) (view : StoreView) (t : P) : Type 0 where
    pub reached : P
    pub looked : P
    pub store : S
    pub left : S
    pub names : List (List ℕ)
    pub finds : FindsStore reads opens s path view.catalog store reached
    pub listed : lists reached path names looked
    pub drawn : IsDrawn draws looked svg prints (is_some view.picture) t
    pub looks : LooksOver gives refuses view.catalog store view.bad.items view.lines.items left
    pub design : IsDesign view.catalog [] view.design
    pub unfinished : leaves t path view.unfinished

  -- The store at this path was found, and its file of this name read, whose bytes say this.
  pub record ShowsFile (s : P) (path text : List ℕ) (view : FileView) (t : P) : Type 0 where
    pub store : S
    pub left : S
    pub bytes : List ℕ
    pub finds : FindsStore reads opens s path view.catalog store t
    pub named : HasName view.catalog view.name
    pub called : file_path view.name ≡ text
    pub given : gives store view.name (Some bytes) left
    pub report : IsReportOf view.catalog view.name bytes view.report

  -- the answer is the store as a whole, or the file of it that was asked for
  abbrev pub Shows : (S → FileName → StoreFault → S → Type 0) → (P → List ℕ → List (List ℕ) → P → Type 0) → (P → List ℕ → List ℕ → P → Type 0) → (P → List ℕ → Option WorkKind → Type 0) → P → List ℕ → Option (List ℕ) → Option (List ℕ) → Bool → Answer → P → Type 0
  Shows refuses lists draws leaves s path None svg prints (Shown view) t = ShowsStore refuses lists draws leaves s path svg prints view t
  Shows refuses lists draws leaves s path (Some file) svg prints (ShownFile view) t = ShowsFile s path file view t
  Shows refuses lists draws leaves s path _ _ _ _ t = ⊥
