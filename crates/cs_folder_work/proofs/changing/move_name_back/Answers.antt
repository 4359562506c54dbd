use Rattle.std.proofs.Common.{string_bytes, subst}
use Rattle.std.proofs.lemmas.Result.{on_ok_weaker}
use Rattle.cs_file_system.specs.Moving.{IsMovedBack}
use Rattle.cs_folder_work.proofs.ChangingLemmas.{moved_of}
use Rattle.cs_folder_work.proofs.changing.move_name_back.Goals as goal

pub returns : goal.returns
returns g c =
    let old = c.in_ok-old.old in
    let new = c.in_ok-new.new in
    on_ok_weaker c.move_back.result (λ moved. λ calls made.
    moved_of g.F.FileSystem.has_identity c.args.folders.now c.args.noted.now c.args.name c.in_ok-folder.folder.now c.in_ok-folder.ensures.folder c.args.number old new c.in_ok-old.ensures c.in_ok-new.ensures calls (
    subst (λ f. IsMovedBack f (string_bytes new.path) (string_bytes new.kept) (string_bytes new.kept_folder) calls) c.as_str-from.ensures.value (
    subst (λ p. IsMovedBack c.as_str-from.result.now p (string_bytes new.kept) (string_bytes new.kept_folder) calls) c.as_str-to.ensures.value (
    subst (λ k. IsMovedBack c.as_str-from.result.now c.as_str-to.result.now k (string_bytes new.kept_folder) calls) c.as_str-kept.ensures.value (
    subst (λ d. IsMovedBack c.as_str-from.result.now c.as_str-to.result.now c.as_str-kept.result.now d calls) c.as_str-kept_folder.ensures.value (moved calls made)))))) c.move_back.ensures
