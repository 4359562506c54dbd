use Rattle.std.proofs.Common.{take}
use Rattle.cs_store.specs.FileSet.{contents_of}
use Rattle.cs_rebuild.specs.Reading.{AreThere}
use Rattle.cs_rebuild.proofs.digests.files_there.Given as goal

-- the files under the names so far
abbrev pub invariant-loop-name : goal.invariant-loop-name
invariant-loop-name l = AreThere (contents_of l.files) (take l.name-index l.names) l.there.items
