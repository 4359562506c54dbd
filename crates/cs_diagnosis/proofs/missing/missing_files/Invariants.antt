use Rattle.std.proofs.Common.{◌≡◌, None, take}
use Rattle.cs_schema.specs.declared.file_name.FileName.{FileName}
use Rattle.cs_schema.specs.FileNames.{HasName}
use Rattle.cs_schema.specs.Lists.{IsIn}
use Rattle.cs_store.specs.FileSet.{contents_of}
use Rattle.cs_inspection.specs.declared.badness.Badness.{Badness}
use Rattle.cs_diagnosis.proofs.missing.missing_files.Given as goal

-- the missing files among the names so far
abbrev pub invariant-loop-name : goal.invariant-loop-name
invariant-loop-name l = record {
  each : (b : FileName × Badness) → IsIn b l.missing.items → HasName l.catalog b.0 × (contents_of l.files b.0 ≡ None);
  all : (n : FileName) → IsIn n (take l.name-index l.name-items) → contents_of l.files n ≡ None → IsIn {X = FileName × Badness} (n, Badness.Missing) l.missing.items;
}
