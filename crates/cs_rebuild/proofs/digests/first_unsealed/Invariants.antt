use Rattle.std.proofs.Common.{take}
use Rattle.cs_store.specs.FileSet.{contents_of}
use Rattle.cs_rebuild.specs.Reading.{AreSealedAmong}
use Rattle.cs_rebuild.proofs.digests.first_unsealed.Given as goal

-- the digests of the files so far are right
abbrev pub invariant-loop-name : goal.invariant-loop-name
invariant-loop-name l = AreSealedAmong (contents_of l.files) (take l.name-index l.names)
