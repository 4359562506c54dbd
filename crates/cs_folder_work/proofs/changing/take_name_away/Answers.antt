use Rattle.std.proofs.lemmas.Result.{on_ok_weaker}
use Rattle.cs_folder_work.proofs.ChangingLemmas.{taken_of}
use Rattle.cs_folder_work.proofs.changing.take_name_away.Goals as goal

pub returns : goal.returns
returns g c = on_ok_weaker c.take_away.result (λ taken. λ calls made.
    taken_of g.F.FileSystem.has_identity c.args.folders.now c.args.noted.now c.args.name c.in_ok-folder.folder.now c.in_ok-folder.ensures.folder c.in_ok-paths.paths c.in_ok-paths.ensures calls (taken calls made)) c.take_away.ensures
