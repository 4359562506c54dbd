use Rattle.std.proofs.Common.{◌≡◌, ℕ, ◌<◌, Some}
use Rattle.std.specs.Prelude.{IsTrue}
use Rattle.std.specs.List.{slice_get}
use Rattle.cs_schema.specs.declared.file_name.FileName.{FileName}
use Rattle.cs_schema.specs.Lists.{member}
use Rattle.cs_recovery.specs.Conflicts.{site_of}
use Rattle.cs_inspection.specs.declared.badness.Badness.{Badness}
use Rattle.cs_diagnosis.specs.Forced.{IsBadSite}
use Rattle.cs_diagnosis.proofs.forcing.bad_sites.Given as goal

-- the sites so far have bad files, and they include those of the files so far
abbrev pub invariant-loop-file : goal.invariant-loop-file
invariant-loop-file l = record {
  bad : (x : ℕ) → IsTrue (member l.sites x) → IsBadSite l.catalog l.bad x;
  each : (k : ℕ) (b : FileName × Badness) → k < l.file-index → slice_get l.bad k ≡ Some b → IsTrue (member l.sites (site_of l.catalog b.0));
}
