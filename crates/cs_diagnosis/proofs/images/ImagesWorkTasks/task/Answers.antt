use Rattle.std.proofs.Common.{refl, get_or}
use Rattle.std.proofs.lemmas.Option.{slice_get-get_or}
use Rattle.cs_schema.proofs.Lists.{in_at}
use Rattle.cs_diagnosis.proofs.images.ImagesWorkTasks.task.Goals as goal

pub image_conflict-requires : goal.image_conflict-requires
image_conflict-requires g c =
    let xs = c.args.self.now.segments.now in
    c.args.self.now.survive (get_or xs c.args.i (0, 0)) (in_at xs c.args.i (get_or xs c.args.i (0, 0)) (slice_get-get_or xs c.args.i (0, 0) c.requires))

pub returns-clause-ok : goal.returns-clause-ok
returns-clause-ok g c =
    let xs = c.args.self.now.segments.now in
    (refl, record { segment = get_or xs c.args.i (0, 0); at = slice_get-get_or xs c.args.i (0, 0) c.requires; conflict = c.image_conflict.ensures })
