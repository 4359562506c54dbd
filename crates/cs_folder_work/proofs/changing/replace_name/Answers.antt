use Rattle.std.proofs.Common.{string_bytes, subst}
use Rattle.std.proofs.lemmas.Result.{on_ok_weaker}
use Rattle.cs_file_system.specs.Placing.{IsPut}
use Rattle.cs_folder_work.proofs.ChangingLemmas.{new_of, replaced_of}
use Rattle.cs_folder_work.proofs.changing.replace_name.Goals as goal

pub returns-then-is_new : goal.returns-then-is_new
returns-then-is_new g c = on_ok_weaker c.put_owned.result (λ put. λ calls made.
    let there = subst (λ b. IsPut b c.as_str-path.result.now calls) c.as_str-beside.ensures.value (put calls made) in
    new_of g.F.FileSystem.has_identity c.args.folders.now c.args.noted.now c.args.name c.in_ok-folder.folder.now c.in_ok-folder.ensures.folder c.in_ok-paths.paths c.in_ok-paths.ensures calls
    (subst (λ p. IsPut (string_bytes c.in_ok-paths.paths.beside) p calls) c.as_str-path.ensures.value there) (c.is_new.ensures.0 c.if-is_new.true)) c.put_owned.ensures

pub returns : goal.returns
returns g c = on_ok_weaker c.replace_kept.result (λ replaced. λ calls made.
    replaced_of g.F.FileSystem.has_identity c.args.folders.now c.args.noted.now c.args.name c.in_ok-folder.folder.now c.in_ok-folder.ensures.folder c.in_ok-paths.paths c.in_ok-paths.ensures calls (replaced calls made)) c.replace_kept.ensures
