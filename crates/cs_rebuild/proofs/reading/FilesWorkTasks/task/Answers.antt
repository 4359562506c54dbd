use Rattle.std.proofs.lemmas.Option.{slice_get-get_or}
use Rattle.cs_schema.proofs.Lists.{in_at}
use Rattle.cs_rebuild.proofs.Verdicts.{memory_or}
use Rattle.cs_rebuild.proofs.reading.FilesWorkTasks.task.Goals as goal

pub invariant_of-source : goal.invariant_of-source
invariant_of-source g c = record { exists = c.args.self.now.exist _ (in_at c.args.self.now.segments.now c.args.i _ (slice_get-get_or c.args.self.now.segments.now c.args.i (0, 0) c.requires)) }

pub returns-in-Ok-clause-ok : goal.returns-in-Ok-clause-ok
returns-in-Ok-clause-ok g c =
    let at = slice_get-get_or c.args.self.now.segments.now c.args.i (0, 0) c.requires in
    ((_, at, c.in-Ok.ensures.sound), (_, at, c.in-Ok.ensures.ok))

pub returns-in-Err-clause-err : goal.returns-in-Err-clause-err
returns-in-Err-clause-err g c = memory_or _ c.in-Err.ensures.err (λ h. (_, slice_get-get_or c.args.self.now.segments.now c.args.i (0, 0) c.requires, h))
