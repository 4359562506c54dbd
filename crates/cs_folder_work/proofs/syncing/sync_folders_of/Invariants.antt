use Rattle.std.proofs.Common.{map, take, string_bytes}
use Rattle.std.specs.List.{All}
use Rattle.cs_file_system.specs.Calls.{Always, IsSettled}
use Rattle.cs_folder_work.proofs.syncing.sync_folders_of.Given as goal

abbrev pub invariant-loop-path : goal.invariant-loop-path
invariant-loop-path g l = Always (g.F.FileSystem.made l.files) (λ calls. All (λ path. IsSettled path calls) (map string_bytes (take l.path-index l.path-items)))
