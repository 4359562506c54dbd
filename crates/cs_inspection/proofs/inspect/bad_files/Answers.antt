use Rattle.std.proofs.lemmas.Result.{IfOk-weaker}
use Rattle.cs_store.specs.FileSet.{contents_of}
use Rattle.cs_inspection.proofs.Listing.{all_bad}
use Rattle.cs_inspection.proofs.inspect.bad_files.Goals as goal

pub returns : goal.returns
returns g c =
    IfOk-weaker c.bad_survivors.result _ _ (λ bad among.
    all_bad c.args.catalog.now c.projection_count-rules.ensures.rules (contents_of c.args.files.now) c.args.unreadable.now c.none.result bad.items c.none.ensures among) c.bad_survivors.ensures
