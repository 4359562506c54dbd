use Rattle.std.proofs.Common.{◌≡◌, ℕ, ◌<◌, Some, None}
use Rattle.std.specs.List.{slice_get}
use Rattle.cs_schema.specs.declared.file_name.FileName.{FileName}
use Rattle.cs_store.specs.FileSet.{contents_of}
use Rattle.cs_diagnosis.proofs.absent.are_absent.Given as goal

abbrev pub invariant-loop-name : goal.invariant-loop-name
invariant-loop-name l = (k : ℕ) (n : FileName) → k < l.name-index → slice_get l.names k ≡ Some n → contents_of l.files n ≡ None
