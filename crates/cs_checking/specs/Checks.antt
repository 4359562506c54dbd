-- What the verb `check` does, by what the places and the store say of one call.
use Rattle.std.specs.Prelude.{◌≡◌, ◌==◌, ℕ, ◌+◌, ◌≤◌, List, [], ◌∷◌, length, not, Option, MatchOption, Ok, Err}
use Rattle.std.specs.Option.{unwrap_or}
use Rattle.cs_schema.specs.Losses.{Sites}
use Rattle.cs_schema.specs.CatalogData.{CatalogData}
use Rattle.cs_schema.specs.FileNames.{FileContents, surviving}
use Rattle.cs_schema.specs.declared.file_name.FileName.{FileName}
use Rattle.cs_store.specs.FileSet.{Files, contents_of}
use Rattle.cs_store.specs.LoadReadable.{LoadsReadable}
use Rattle.cs_store.specs.declared.fault.StoreFault.{StoreFault}
use Rattle.cs_recovery.specs.Claims.{IsCheckAnswer}
use Rattle.cs_inspection.specs.declared.badness.Badness.{Badness}
use Rattle.cs_inspection.specs.BadFiles.{AreBadFiles}
use Rattle.cs_design.specs.Fatal.{IsFatal, IsSafeBeyond, IsFatalAt, AreFatalLosses}
use Rattle.pinepolo_places.specs.Finding.{FindsStore}
use Rattle.pinepolo_answers.specs.declared.checked.Checked.{Checked}
use Rattle.pinepolo_answers.specs.declared.checked.Verdict.{Verdict}
use Rattle.pinepolo_answers.specs.declared.checked.Verdict.TheVariants.{Sound, Fatal, BadFiles, Unsound}
use Rattle.cs_shelf.specs.declared.work.WorkKind.{WorkKind}

-- The number of sites that is asked for, or none, may fail.
abbrev pub IsAllowed : CatalogData → Option ℕ → Type 0
IsAllowed C asked = IsSafeBeyond C [] (unwrap_or asked 0)

-- So many sites may fail, and it is the number that is asked for, or where none is the greatest.
abbrev pub IsChosen : CatalogData → Option ℕ → ℕ → Type 0
IsChosen C asked k = IsSafeBeyond C [] k × MatchOption asked (IsFatalAt C [] (k + 1)) (λ n. k ≡ n)

-- Some loss of at most so many sites is not safe.
abbrev pub HasFatal : CatalogData → ℕ → Type 0
HasFatal C k = (L : Sites) × IsFatal C [] L × (length L ≤ k)

-- The first of the least losses that are not safe.
abbrev pub IsFirstFatal : CatalogData → Sites → Type 0
IsFirstFatal C L = (others : List Sites) × AreFatalLosses C [] (L ∷ others)

-- Each file could be read, and none is bad.
abbrev pub NoneIsBad : List FileName → List (FileName × Badness) → Type 0
NoneIsBad unreadable bad = (bad ≡ []) × (unreadable ≡ [])

-- The one verdict on files of which these could not be read and these are bad.
abbrev pub Judges : CatalogData → FileContents → List FileName → List (FileName × Badness) → Option ℕ → Verdict → Type 0
Judges C F unreadable bad asked (Sound rows k) = IsChosen C asked k × NoneIsBad unreadable bad × IsCheckAnswer C F 0 (Ok rows)
Judges C F unreadable bad asked (Fatal k L) = (k ≡ unwrap_or asked 0) × HasFatal C k × IsFirstFatal C L
Judges C F unreadable bad asked BadFiles = IsAllowed C asked × (¬ NoneIsBad unreadable bad)
Judges C F unreadable bad asked (Unsound fault) = IsAllowed C asked × NoneIsBad unreadable bad × IsCheckAnswer C F 0 (Err fault)

-- These are the bad files, and this is the verdict on what could be read.
pub record IsJudged (C : CatalogData) (F : FileContents) (unreadable : List FileName) (asked : Option ℕ) (bad : List (FileName × Badness)) (verdict : Verdict) : Type 0 where
  pub inspected : AreBadFiles C F unreadable bad
  pub judged : Judges C F unreadable bad asked verdict

module _ {P S : Type 0} (reads : P → List ℕ → List ℕ → P → Type 0) (opens : P → List ℕ → CatalogData → S → Type 0) (gives : S → FileName → Option (List ℕ) → S → Type 0) where
  -- the store at this path was found, each of its files read, and what could be read was judged, by the number that is asked for
  pub record ChecksStore (refuses : S → FileName → StoreFault → S → Type 0) (leaves : P → List ℕ → Option WorkKind → Type 0) (s : P) (path : List ℕ) (asked : Option ℕ) (checked : Checked) (t : P) : Type 0 where
    pub files : Files
    pub unreadable : List FileName
    pub store : S
    pub left : S
    pub finds : FindsStore reads opens s path checked.catalog store t
    pub loads : LoadsReadable gives refuses (surviving checked.catalog []) store files unreadable left
    pub judged : IsJudged checked.catalog (contents_of files) unreadable asked checked.bad.items checked.verdict
    pub is_unreadable : checked.is_unreadable ≡ not (length unreadable == 0)
    pub unfinished : leaves t path checked.unfinished
