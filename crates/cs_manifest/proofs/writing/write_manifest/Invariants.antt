use Rattle.std.proofs.Common.{◌≡◌, ◌++◌, take}
use Rattle.std.specs.List.{flat_map}
use Rattle.cs_manifest.specs.Lines.{line_of, catalog_path, file_line}
use Rattle.cs_manifest.proofs.writing.write_manifest.Given as goal

abbrev pub invariant-loop-name : goal.invariant-loop-name
invariant-loop-name l = l.text.items ≡ line_of catalog_path l.catalog ++ flat_map file_line (take l.name-index l.files)
