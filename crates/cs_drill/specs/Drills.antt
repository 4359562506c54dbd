-- What a drill says of a store: of each loss, what is rebuilt from the other files, beside what stands.
use Rattle.std.specs.Prelude.{◌≡◌, ◌≢◌, ◌<◌, ◌↔◌, ℕ, List, map, length, All, Option, MatchOption, Some, Err, IsTrue}
use Rattle.std.specs.List.{slice_get}
use Rattle.std.specs.FinMap.{entries}
use Rattle.cs_schema.specs.declared.file_name.FileName.{FileName}
use Rattle.cs_schema.specs.CatalogData.{CatalogData}
use Rattle.cs_schema.specs.FileNames.{FileContents}
use Rattle.cs_schema.specs.Losses.{Sites}
use Rattle.cs_schema.specs.Rows.{Row}
use Rattle.cs_store.specs.FileSet.{Files, contents_of}
use Rattle.cs_safety.specs.Safety.{IsSafe}
use Rattle.cs_design.specs.Order.{AreAllLosses}
use Rattle.cs_recovery.specs.Claims.{IsOnlyTable}
use Rattle.cs_recovery.specs.Expected.{AreExpected}
use Rattle.cs_recovery.specs.Holding.{Holds, HoldsSurvivors}
use Rattle.cs_recovery.specs.Verdicts.{IsRebuildVerdict}
use Rattle.cs_drill.specs.declared.trial.Outcome.{Outcome}
use Rattle.cs_drill.specs.declared.trial.Outcome.TheVariants as outcome
use Rattle.cs_drill.specs.declared.trial.Rebuilt.{Rebuilt}
use Rattle.cs_drill.specs.declared.trial.Trial.{Trial}

-- the first so many of these files stand byte for byte
abbrev pub StandBelow : FileContents → List (FileName × List ℕ) → ℕ → Type 0
StandBelow F files n = (i : ℕ) (file : FileName × List ℕ) → i < n → slice_get files i ≡ Some file → F file.0 ≡ Some file.1

-- of this file other bytes stand, or none, and those before it stand byte for byte
pub record IsOther (F : FileContents) (files : List (FileName × List ℕ)) (name : FileName) : Type 0 where
  pub place : ℕ
  pub bytes : List ℕ
  pub at : slice_get files place ≡ Some (name, bytes)
  pub other : F name ≢ Some bytes
  pub before : StandBelow F files place

-- the first of these files of which other bytes stand, or all stand byte for byte
abbrev pub IsFirstOther : FileContents → List (FileName × List ℕ) → Option FileName → Type 0
IsFirstOther F files other = MatchOption other (StandBelow F files (length files)) (IsOther F files)

-- the loss is safe, the other files hold one table, and these files recover it
pub record RecoversTable (C : CatalogData) (F : FileContents) (L : Sites) (T : List Row) (out : Files) : Type 0 where
  pub safe : IsSafe C L
  pub only : IsOnlyTable (HoldsSurvivors C F L) T
  pub expected : AreExpected C F L T (contents_of out)

abbrev pub Recovers : CatalogData → FileContents → Sites → Files → Type 0
Recovers C F L out = (T : List Row) × RecoversTable C F L T out

-- The files that recover a loss were compared with what stands: byte by byte, and by their table.
pub record IsRebuilt (C : CatalogData) (F : FileContents) (L : Sites) (r : Rebuilt) : Type 0 where
  pub table : List Row
  pub files : Files
  pub recovers : RecoversTable C F L table files
  pub rows : r.rows ≡ length table
  pub count : r.files ≡ length (entries files)
  pub same : IsTrue r.is_same ↔ Holds C F table
  pub other : IsFirstOther F (entries files) r.first_other

-- what came of a loss
abbrev pub IsOutcome : CatalogData → FileContents → Sites → Outcome → Type 0
IsOutcome C F L (outcome.Rebuilt r) = IsRebuilt C F L r
IsOutcome C F L (outcome.Refused f) = IsRebuildVerdict C F L (Err f)

abbrev pub IsTrial : CatalogData → FileContents → Trial → Type 0
IsTrial C F t = IsOutcome C F t.loss t.outcome

-- a trial of each loss of at most so many sites, in the order of losses, and no other
pub record AreTrials (C : CatalogData) (F : FileContents) (at_most : ℕ) (trials : List Trial) : Type 0 where
  pub losses : AreAllLosses C at_most (map (λ t. t.loss) trials)
  pub each : All (IsTrial C F) trials
