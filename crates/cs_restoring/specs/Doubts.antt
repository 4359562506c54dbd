-- Whether it is doubtful that a store lost just some sites.
use Rattle.std.specs.Prelude.{◌≡◌, ◌≤◌, ℕ, Bool, false, List, [], length, Option, Some, IsTrue}
use Rattle.cs_schema.specs.declared.file_name.FileName.{FileName}
use Rattle.cs_schema.specs.CatalogData.{CatalogData}
use Rattle.cs_schema.specs.FileNames.{FileContents, HasName, surviving}
use Rattle.cs_schema.specs.Lists.{member}
use Rattle.cs_schema.specs.Losses.{Sites, IsLoss}
use Rattle.cs_safety.specs.Safety.{IsSafe}
use Rattle.cs_store.specs.FileSet.{contents_of}
use Rattle.cs_store.specs.LoadReadable.{LoadsReadable}
use Rattle.cs_store.specs.declared.fault.StoreFault.{StoreFault}
use Rattle.cs_store.specs.declared.readable.Readable.{Readable}
use Rattle.cs_recovery.specs.Conflicts.{site_of}
use Rattle.cs_inspection.specs.BadFiles.{IsBad}
use Rattle.cs_inspection.specs.declared.badness.Badness.{Badness}
use Rattle.cs_diagnosis.specs.Findings.{IsExplained, IsFound}
use Rattle.cs_diagnosis.specs.declared.findings.Verdict.TheVariants.{Ambiguous}
use Rattle.cs_diagnosis.specs.Diagnoses.{IsDiagnosis}
use Rattle.cs_diagnosis.specs.declared.diagnosing.Diagnosis.{Diagnosis}

-- A diagnosis makes it doubtful that just these sites were lost: they hold an explanation, and explanations have different
-- tables, or the sites are not an explanation themselves, so that fewer would do. Where a restore goes on that has put files in
-- place already, fewer may do.
pub data IsDoubtful (d : Diagnosis) (L : Sites) (resumes : Bool) : Type 0 where
  tables : IsExplained d.explanations.items L → d.verdict ≡ Ambiguous → IsDoubtful d L resumes
  fewer : IsExplained d.explanations.items L → ¬ IsFound d.explanations.items L → resumes ≡ false → IsDoubtful d L resumes

-- a bad file stands on each site of the loss
abbrev pub IsEachBad : CatalogData → FileContents → List FileName → Sites → Type 0
IsEachBad C F unreadable L = (x : ℕ) → IsTrue (member L x) → (n : FileName) × (why : Badness) × HasName C n × IsBad C F unreadable n why × (x ≡ site_of C n)

-- It is not doubtful that a store of which this was read lost just these sites: a bad file stands on each, or a diagnosis by
-- losses of as many sites at least says so. A loss that is not safe, or names another site than the catalog's, is refused whatever the files are.
pub data IsUndoubted (C : CatalogData) (read : Readable) (L : Sites) (resumes : Bool) : Type 0 where
  refused : ¬ (IsLoss C L × IsSafe C L) → IsUndoubted C read L resumes
  each_bad : IsEachBad C (contents_of read.files) read.unreadable.items L → IsUndoubted C read L resumes
  told : (n : ℕ) (d : Diagnosis) → length L ≤ n → IsDiagnosis C (contents_of read.files) read.unreadable.items (Some n) d → ¬ IsDoubtful d L resumes → IsUndoubted C read L resumes

-- A diagnosis of what was read makes it doubtful that just these sites were lost.
pub record IsDoubtBy (C : CatalogData) (read : Readable) (L : Sites) (resumes : Bool) (d : Diagnosis) : Type 0 where
  pub at_most : ℕ
  pub diagnosis : IsDiagnosis C (contents_of read.files) read.unreadable.items (Some at_most) d
  pub doubtful : IsDoubtful d L resumes

module _ {K : Type 0} (gives : K → FileName → Option (List ℕ) → K → Type 0) (refuses : K → FileName → StoreFault → K → Type 0) where
  -- each file of the store was tried, and this was read of it
  abbrev pub IsReadFrom : CatalogData → K → Readable → K → Type 0
  IsReadFrom C store read seen = LoadsReadable gives refuses (surviving C []) store read.files read.unreadable.items seen

  -- by what was read of this store it is not doubtful that just these sites were lost
  pub record IsUndoubtedOf (C : CatalogData) (store : K) (L : Sites) (resumes : Bool) : Type 0 where
    pub read : Readable
    pub seen : K
    pub from : IsReadFrom C store read seen
    pub undoubted : IsUndoubted C read L resumes

  -- a diagnosis of what was read of this store makes it doubtful
  pub record IsDoubtOf (C : CatalogData) (store : K) (L : Sites) (resumes : Bool) (d : Diagnosis) : Type 0 where
    pub read : Readable
    pub seen : K
    pub from : IsReadFrom C store read seen
    pub doubt : IsDoubtBy C read L resumes d
