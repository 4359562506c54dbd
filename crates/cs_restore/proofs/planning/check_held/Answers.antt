use Rattle.cs_shelf.specs.Faults.{FailsToRead}
use Rattle.cs_restore.proofs.Found.{reads_back, refused_back}
use Rattle.cs_restore.proofs.planning.check_held.Goals as goal

pub returns-clause-accepted : goal.returns-clause-accepted
returns-clause-accepted g c =
    reads_back c.args.catalog.now (g.S.Shelf.holds c.load_held.new.shelf) c.none.result c.in-Ok.read c.none.ensures c.in-Ok.ensures.found c.check_owned.result c.check_owned.ensures.answer

pub returns-clause-refused : goal.returns-clause-refused
returns-clause-refused g c =
    refused_back c.args.catalog.now (g.S.Shelf.holds c.load_held.new.shelf) c.none.result c.in-Ok.read c.none.ensures c.in-Ok.ensures.found
    (FailsToRead (g.S.Source.fault_count c.args.shelf.now) (g.S.Source.fault_count c.load_held.new.shelf)) c.check_owned.result c.check_owned.ensures.answer
