use Rattle.std.specs.Prelude.{[]}
use Rattle.std.proofs.Common.{subst}
use Rattle.std.proofs.lemmas.Result.{IfOk-weaker}
use Rattle.cs_schema.specs.FileNames.{surviving}
use Rattle.cs_store.specs.LoadReadable.{LoadsReadable}
use Rattle.cs_shelf.proofs.Readable.{loads_read, attempts_still}
use Rattle.cs_shelf.proofs.reading.load_readable_held.Goals as goal

pub returns-clause-loads : goal.returns-clause-loads
returns-clause-loads g c =
    IfOk-weaker c.load_readable.result _ _ (λ read loads.
    subst (λ l. LoadsReadable g.S.Source.gives g.S.Source.refuses (surviving c.args.catalog.now l) c.args.shelf.now read.files read.unreadable.items c.load_readable.new.source) c.none.ensures loads) c.load_readable.ensures.ok

pub returns-clause-found : goal.returns-clause-found
returns-clause-found g c =
    IfOk-weaker c.load_readable.result _ _ (λ read loads.
    loads_read g.S.Shelf.holds g.S.Shelf.may_leave g.S.Shelf.kept g.S.Shelf.moment g.S.Shelf.left_since g.S.Source.gives g.S.Source.refuses g.met.S.Shelf.reads_find g.met.S.Shelf.reads_change_nothing g.met.S.Shelf.refusals_change_nothing
    (surviving c.args.catalog.now []) c.args.shelf.now c.load_readable.new.source read.files read.unreadable.items
    (subst (λ l. LoadsReadable g.S.Source.gives g.S.Source.refuses (surviving c.args.catalog.now l) c.args.shelf.now read.files read.unreadable.items c.load_readable.new.source) c.none.ensures loads)) c.load_readable.ensures.ok

pub returns-clause-unchanged : goal.returns-clause-unchanged
returns-clause-unchanged g c =
    attempts_still g.S.Shelf.holds g.S.Shelf.may_leave g.S.Shelf.kept g.S.Shelf.moment g.S.Shelf.left_since g.S.Source.gives g.S.Source.refuses g.met.S.Shelf.reads_find g.met.S.Shelf.reads_change_nothing g.met.S.Shelf.refusals_change_nothing
    (surviving c.args.catalog.now c.none.result) c.args.shelf.now c.load_readable.new.source c.load_readable.ensures.reads
