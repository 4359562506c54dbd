-- No status of an answer or an error is above 6.
use Rattle.std.proofs.Common.{◌≡◌, ◌⊎◌, ⊎_elim, subst, sym, ◌≤◌, ℕ, Bool, true, false, List, [], ◌∷◌, Option, None, Some, if◌then◌else◌, arith}
use Rattle.std.specs.List.{list_any}
use Rattle.cs_schema.specs.declared.file_name.FileName.{FileName}
use Rattle.cs_manifest.specs.declared.comparing.Difference.{Difference}
use Rattle.pinepolo_answers.specs.Statuses.{agreement, is_missing, is_unread, is_unreadable}
use Rattle.cs_diagnosis.specs.declared.findings.Verdict.{Verdict as FoundVerdict}
use Rattle.cs_diagnosis.specs.declared.findings.Verdict.TheVariants as Found
use Rattle.pinepolo_answers.specs.Statuses.{is_failed}
use Rattle.pinepolo_answers.specs.declared.checked.Verdict.{Verdict}
use Rattle.pinepolo_answers.specs.declared.checked.Verdict.TheVariants.{Sound, Fatal, BadFiles, Unsound}
use Rattle.pinepolo_answers.specs.declared.restoration.Restoration.{Restoration}
use Rattle.pinepolo_answers.specs.declared.restoration.Restoration.TheVariants as restoration
use Rattle.pinepolo_answers.specs.declared.answer.Answer.{Answer}
use Rattle.pinepolo_answers.specs.declared.answer.Answer.TheVariants as answer
use Rattle.pinepolo_answers.specs.Statuses.{answer_status}
use Rattle.pinepolo_answers.specs.Statuses.{checked_status, diagnosed_status, found_status, restoration_status}
use Rattle.cs_store.specs.declared.fault.Fault.{Fault}
use Rattle.cs_store.specs.declared.fault.Fault.TheVariants as fault
use Rattle.pinepolo_places.specs.declared.error.VerbError.{VerbError}
use Rattle.pinepolo_places.specs.declared.error.VerbError.TheVariants as error
use Rattle.pinepolo_places.specs.declared.sites_error.SitesError.{SitesError}
use Rattle.pinepolo_places.specs.declared.sites_error.SitesError.TheVariants as sites
use Rattle.pinepolo_places.specs.Status.{fault_status, sites_status, status_of}

if_low : (b : Bool) (m n : ℕ) → m ≤ 6 → n ≤ 6 → (if b then m else n) ≤ 6
if_low true m n low other = low
if_low false m n other low = low

checked_low : (v : Verdict) (u : Bool) → checked_status v u ≤ 6
checked_low (Sound rows k) u = omega arith
checked_low (Fatal k loss) true = omega arith
checked_low (Fatal k loss) false = omega arith
checked_low BadFiles true = omega arith
checked_low BadFiles false = omega arith
checked_low (Unsound f) true = omega arith
checked_low (Unsound f) false = omega arith

diagnosed_low : (v : FoundVerdict) → diagnosed_status v ≤ 6
diagnosed_low Found.Sound = omega arith
diagnosed_low Found.OneTable = omega arith
diagnosed_low Found.Ambiguous = omega arith
diagnosed_low Found.NotRecoverable = omega arith

restoration_low : (r : Restoration) → restoration_status r ≤ 6
restoration_low (restoration.Done r) = omega arith
restoration_low (restoration.Doubted d) = omega arith

found_low : (v : FoundVerdict) (r : Option Restoration) → found_status v r ≤ 6
found_low v (Some r) = restoration_low r
found_low v None = diagnosed_low v

agreement_low : (catalog : Option Difference) (files : List (FileName × Difference)) → agreement catalog files ≤ 6
agreement_low None [] = omega arith
agreement_low None (f ∷ fs) = omega arith
agreement_low (Some how) files = omega arith

answer_low : (a : Answer) → answer_status a ≤ 6
answer_low (answer.Checked c) = checked_low c.verdict c.is_unreadable
answer_low (answer.Drilled d) = if_low (list_any is_failed d.trials.items) 1 0 (omega arith) (omega arith)
answer_low (answer.Diagnosed d) = diagnosed_low d.diagnosis.verdict
answer_low (answer.Restored r) = restoration_low r
answer_low (answer.RestoredFound f) = found_low f.diagnosed.diagnosis.verdict f.restoration
answer_low (answer.Listed l) = if_low (list_any (λ file. is_unread file.1) l.files.items) 4 _ (omega arith) (if_low (list_any (λ file. is_missing file.1) l.files.items) 1 0 (omega arith) (omega arith))
answer_low (answer.Verified v) = if_low (list_any (λ file. is_unreadable file.1) v.comparison.files.items) 4 _ (omega arith) (agreement_low v.comparison.catalog v.comparison.files.items)
answer_low _ = omega arith

-- nor is a status that is printed for one of this status
low_or_printed : (told n : ℕ) → told ≤ 6 → (n ≡ told) ⊎ ((n ≡ 3) ⊎ (n ≡ 4)) → n ≤ 6
low_or_printed told n low said = ⊎_elim (λ e. subst (λ m. m ≤ 6) (sym e) low) (λ rest. ⊎_elim (λ e. omega (arith, e)) (λ e. omega (arith, e)) rest) said

pub said_low : (a : Answer) (n : ℕ) → (n ≡ answer_status a) ⊎ ((n ≡ 3) ⊎ (n ≡ 4)) → n ≤ 6
said_low a n said = low_or_printed (answer_status a) n (answer_low a) said

fault_low : (f : Fault) → fault_status f ≤ 6
fault_low fault.Memory = omega arith
fault_low (fault.Read name) = omega arith
fault_low (fault.Write name) = omega arith
fault_low _ = omega arith

sites_low : (e : SitesError) → sites_status e ≤ 6
sites_low (sites.Refused file why) = omega arith
sites_low (sites.OneFolder file numbers folder) = omega arith
sites_low (sites.StoreFolder file site folder) = omega arith
sites_low (sites.NoSite site) = omega arith
sites_low (sites.NotRewritable file) = omega arith
sites_low _ = omega arith

error_low : (e : VerbError) → status_of e ≤ 6
error_low error.NotUtf8 = omega arith
error_low error.OutOfMemory = omega arith
error_low (error.Catalog fault subject) = omega arith
error_low (error.Device failure subject) = omega arith
error_low (error.Refused refusal subject) = omega arith
error_low (error.Sites e) = sites_low e
error_low (error.Store e) = fault_low e.fault

pub stopped_low : (e : VerbError) (n : ℕ) → (n ≡ status_of e) ⊎ ((n ≡ 3) ⊎ (n ≡ 4)) → n ≤ 6
stopped_low e n said = low_or_printed (status_of e) n (error_low e) said
