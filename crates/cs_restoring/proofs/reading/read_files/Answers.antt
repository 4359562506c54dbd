use Rattle.cs_store.specs.FileSet.{contents_of}
use Rattle.cs_restoring.proofs.Unreadable.{absent}
use Rattle.cs_restoring.proofs.reading.read_files.Goals as goal

pub returns-in-Ok-clause-absent : goal.returns-in-Ok-clause-absent
returns-in-Ok-clause-absent g c = absent (contents_of c.in-Ok.read.files) c.in-Ok.read.unreadable.items c.in-Ok.ensures.apart
