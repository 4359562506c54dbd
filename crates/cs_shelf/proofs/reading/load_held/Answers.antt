use Rattle.std.proofs.lemmas.Result.{IfOk-weaker}
use Rattle.cs_schema.specs.FileNames.{surviving}
use Rattle.cs_store.specs.Load.{StopsLoading}
use Rattle.cs_shelf.proofs.Faults.{read_failed}
use Rattle.cs_shelf.proofs.Loads.{loads_found, some_still}
use Rattle.cs_shelf.proofs.reading.load_held.Goals as goal

pub returns-clause-found : goal.returns-clause-found
returns-clause-found g c =
    IfOk-weaker c.load.result _ _ (λ files loads.
    loads_found g.S.Shelf.holds g.S.Shelf.may_leave g.S.Shelf.kept g.S.Shelf.moment g.S.Shelf.left_since g.S.Source.gives g.met.S.Shelf.reads_find g.met.S.Shelf.reads_change_nothing
    (surviving c.args.catalog.now c.args.loss) c.args.shelf.now files c.load.new.source loads) c.load.ensures.ok

pub returns-clause-unchanged : goal.returns-clause-unchanged
returns-clause-unchanged g c =
    some_still g.S.Shelf.holds g.S.Shelf.may_leave g.S.Shelf.kept g.S.Shelf.moment g.S.Shelf.left_since g.S.Source.gives g.met.S.Shelf.reads_find g.met.S.Shelf.reads_change_nothing
    (surviving c.args.catalog.now c.args.loss) c.args.shelf.now g.S.Source.refuses g.met.S.Shelf.refusals_change_nothing c.load.new.source c.load.ensures.reads

pub returns-clause-device : goal.returns-clause-device
returns-clause-device g c =
    read_failed (g.S.Source.fault_count c.args.shelf.now) (g.S.Source.fault_count c.load.new.source)
    (λ f. StopsLoading g.S.Source.gives g.S.Source.refuses (surviving c.args.catalog.now c.args.loss) c.args.shelf.now f c.load.new.source) (λ f stops. (stops.name, stops.named))
    c.load.result c.load.ensures.err c.load.ensures.device
