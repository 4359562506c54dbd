use Rattle.std.proofs.Common.{◌≡◌, ◌++◌}
use Rattle.std.specs.Map.{keys_of}
use Rattle.cs_folder_work.specs.Changing.{names_of}
use Rattle.cs_folder_work.proofs.record.Record.names.Given as goal

-- the names so far, and those to come
abbrev pub invariant-loop-name : goal.invariant-loop-name
invariant-loop-name l = l.names.items ++ keys_of l.name-iterator ≡ names_of l.self
