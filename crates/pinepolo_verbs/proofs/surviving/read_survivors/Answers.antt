use Rattle.cs_schema.specs.FileNames.{surviving}
use Rattle.cs_parallel_io.specs.Standing.{standing}
use Rattle.pinepolo_verbs.proofs.NoneFailed.{loads_all, no_first}
use Rattle.pinepolo_verbs.proofs.surviving.read_survivors.Goals as goal

pub returns-in-None : goal.returns-in-None
returns-in-None g c =
    loads_all (standing g.S.SharedSource.answers) (standing g.S.SharedSource.fails) (surviving c.args.store.now.catalog.now c.args.store.now.lost) c.args.source.now c.in-Ok.found.files c.in-Ok.found.unreadable.items c.args.source.now
    c.in-Ok.ensures.ok (no_first _ (rw c.deref.ensures.value at c.in-None.ensures.value))
