use Rattle.std.proofs.Common.{◌≡◌, ◌<◌, ℕ, Some, None, slice_get}
use Rattle.std.specs.BTreeMap.{get}
use Rattle.cs_schema.specs.FileNames.{name_cmp}
use Rattle.cs_schema.specs.declared.file_name.FileName.{FileName}
use Rattle.cs_file_system.specs.System.{system_no_link}
use Rattle.cs_folders.specs.Paths.{file_at}
use Rattle.pinepolo_folders.proofs.store_folders.linked.Given as goal

abbrev pub invariant-loop-name : goal.invariant-loop-name
invariant-loop-name g l = (k : ℕ) (name : FileName) → k < l.name-index → slice_get l.name-items k ≡ Some name → get name_cmp l.links.places name ≡ None → system_no_link (file_at l.path name)
