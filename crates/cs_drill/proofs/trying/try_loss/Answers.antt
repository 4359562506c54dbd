use Rattle.cs_store.specs.FileSet.{contents_of}
use Rattle.cs_drill.proofs.Outcomes.{recovers}
use Rattle.cs_drill.proofs.trying.try_loss.Goals as goal

pub compare-requires-clause-recovers : goal.compare-requires-clause-recovers
compare-requires-clause-recovers g c κs within =
    let s = c.args.store.now in
    recovers s.catalog.now (contents_of s.files.now) c.args.loss c.in-Ok.rebuilt (rw c.in-Ok.is at c.rebuild_gated-answer.ensures.clauses)
