use Rattle.std.proofs.Common.{◌≡◌, ◌∙◌, get_or, subst}
use Rattle.cs_schema.specs.declared.file_name.FileName.{FileName}
use Rattle.cs_folders.specs.Paths.{file_at}
use Rattle.cs_folder_work.specs.Keeping.{Becomes}
use Rattle.cs_folder_work.proofs.KeepingLemmas.{one_more}
use Rattle.cs_folder_work.proofs.keeping.keep_names.Goals as goal

pub loop-name-preserved : goal.loop-name-preserved
loop-name-preserved g c = λ calls made.
    let store = c.args.store.now in
    let folder = c.args.folder.now in
    let names = c.args.names.now in
    let i = c.loop-name.name-index in
    let name = get_or names i (FileName.Seg 0 0) in
    let change = c.in_ok-keep_one.field-0 in
    let x = c.in_ok-keep_one.ensures.more calls made in
    let path : c.as_str-path.result.now ≡ file_at store name = c.as_str-path.ensures.value ∙ c.in_ok-path.ensures in
    let kept : c.as_str-kept.result.now ≡ file_at folder name = c.as_str-kept.ensures.value ∙ c.in_ok-kept.ensures in
    let became : Becomes change (file_at store name) (file_at folder name) calls = subst (λ p. Becomes change p (file_at folder name) calls) path (subst (λ k. Becomes change c.as_str-path.result.now k calls) kept (c.in_ok-keep_one.ensures.became calls made)) in
    rw c.in_ok-push.ensures.items (one_more x.0 calls x.2 store folder names i (FileName.Seg 0 0) c.loop-name.changes.items change c.loop-name-test.true (c.loop-name.invariant x.0 x.1) became)
