use Rattle.std.proofs.Common.{◌≡◌, take}
use Rattle.std.specs.List.{filter}
use Rattle.cs_rebuild.specs.FilesToWrite.{is_listed}
use Rattle.cs_rebuild.proofs.files_to_write.files_to_write.Given as goal

-- of the names so far, those that are listed
abbrev pub invariant-loop-name : goal.invariant-loop-name
invariant-loop-name l = l.files.items ≡ filter (is_listed l.catalog l.loss l.joins) (take l.name-index l.name-items)
