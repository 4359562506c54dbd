-- The status that tells what a verb came to.
use Rattle.std.specs.Prelude.{◌∷◌, ℕ, Bool, true, false, not, List, [], Option, None, Some, if◌then◌else◌}
use Rattle.pinepolo_answers.specs.declared.checked.Verdict.{Verdict}
use Rattle.pinepolo_answers.specs.declared.checked.Verdict.TheVariants.{Sound}
use Rattle.cs_diagnosis.specs.declared.findings.Verdict.{Verdict as FoundVerdict}
use Rattle.cs_diagnosis.specs.declared.findings.Verdict.TheVariants as Found
use Rattle.pinepolo_answers.specs.declared.restoration.Restoration.{Restoration}
use Rattle.pinepolo_answers.specs.declared.restoration.Restoration.TheVariants as restoration
use Rattle.std.specs.List.{list_any}
use Rattle.cs_schema.specs.declared.file_name.FileName.{FileName}
use Rattle.cs_manifest.specs.declared.comparing.Comparison.{Comparison}
use Rattle.cs_manifest.specs.declared.comparing.Difference.{Difference}
use Rattle.cs_manifest.specs.declared.comparing.Difference.TheVariants as differs
use Rattle.cs_manifest.specs.declared.digesting.Digested.{Digested}
use Rattle.cs_manifest.specs.declared.digesting.Digested.TheVariants as came_to
use Rattle.cs_drill.specs.declared.trial.Outcome.TheVariants as outcome
use Rattle.cs_drill.specs.declared.trial.Outcome.{Outcome}
use Rattle.cs_drill.specs.declared.trial.Trial.{Trial}
use Rattle.pinepolo_answers.specs.declared.answer.Answer.{Answer}
use Rattle.pinepolo_answers.specs.declared.answer.Answer.TheVariants as answer

-- 0 where the store is sound, 4 where a file could not be read, else 1
abbrev pub checked_status : Verdict → Bool → ℕ
checked_status (Sound rows k) is_unreadable = 0
checked_status _ true = 4
checked_status _ false = 1

-- 0 where the store is sound, 1 where one table explains it, 5 where more than one does, 6 where none does
abbrev pub diagnosed_status : FoundVerdict → ℕ
diagnosed_status Found.Sound = 0
diagnosed_status Found.OneTable = 1
diagnosed_status Found.Ambiguous = 5
diagnosed_status Found.NotRecoverable = 6

-- 0 where a store was restored, 5 where its loss is doubtful
abbrev pub restoration_status : Restoration → ℕ
restoration_status (restoration.Done _) = 0
restoration_status (restoration.Doubted _) = 5

-- that of the restore, or else that of the diagnosis
abbrev pub found_status : FoundVerdict → Option Restoration → ℕ
found_status verdict (Some restoration) = restoration_status restoration
found_status verdict None = diagnosed_status verdict

abbrev pub is_unread : Digested → Bool
is_unread came_to.Unreadable = true
is_unread _ = false

abbrev pub is_missing : Digested → Bool
is_missing came_to.Missing = true
is_missing _ = false

-- 4 where a file could not be read, else 1 where one is missing, else 0
abbrev pub listed_status : List (FileName × Digested) → ℕ
listed_status files = if list_any (λ file. is_unread file.1) files then 4 else if list_any (λ file. is_missing file.1) files then 1 else 0

abbrev pub is_unreadable : Difference → Bool
is_unreadable differs.Unreadable = true
is_unreadable _ = false

-- 0 where nothing differs, else 1
abbrev pub agreement : Option Difference → List (FileName × Difference) → ℕ
agreement None [] = 0
agreement None (file ∷ files) = 1
agreement (Some how) files = 1

-- 4 where a file could not be read, 0 where nothing differs, else 1
abbrev pub differing_status : Option Difference → List (FileName × Difference) → ℕ
differing_status catalog files = if list_any (λ file. is_unreadable file.1) files then 4 else agreement catalog files

abbrev pub verified_status : Comparison → ℕ
verified_status found = differing_status found.catalog found.files.items

-- a loss is not rebuilt, or what stands differs from it
abbrev pub is_failure : Outcome → Bool
is_failure (outcome.Rebuilt rebuilt) = not rebuilt.is_same
is_failure (outcome.Refused fault) = true

abbrev pub is_failed : Trial → Bool
is_failed trial = is_failure trial.outcome

-- 1 if one of the losses failed, else 0
abbrev pub drilled_status : List Trial → ℕ
drilled_status trials = if list_any is_failed trials then 1 else 0

-- 0, but of a check, of a drill, of a diagnosis, of a restore and of manifests that of what they came to
abbrev pub answer_status : Answer → ℕ
answer_status (answer.Checked checked) = checked_status checked.verdict checked.is_unreadable
answer_status (answer.Drilled drilled) = drilled_status drilled.trials.items
answer_status (answer.Diagnosed diagnosed) = diagnosed_status diagnosed.diagnosis.verdict
answer_status (answer.Restored restored) = restoration_status restored
answer_status (answer.RestoredFound found) = found_status found.diagnosed.diagnosis.verdict found.restoration
answer_status (answer.Listed listed) = listed_status listed.files.items
answer_status (answer.Verified verified) = verified_status verified.comparison
answer_status (answer.Shown view) = 0
answer_status (answer.ShownFile view) = 0
answer_status (answer.Recovered recovered) = 0
answer_status (answer.Undone undone) = 0
answer_status (answer.Designed designed) = 0
answer_status (answer.Loaded store) = 0
answer_status (answer.Dumped dumped) = 0
answer_status (answer.Relaid store) = 0
