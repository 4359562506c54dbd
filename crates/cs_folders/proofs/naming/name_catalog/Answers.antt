use Rattle.std.proofs.Common.{◌∙◌, ◌∷◌, ap, subst}
use Rattle.std.proofs.lemmas.Result.{on_ok_weaker}
use Rattle.cs_file_system.specs.Calls.{AddsAll, sync_folder}
use Rattle.cs_folders.specs.Naming.{catalog_at, file_named}
use Rattle.cs_folders.proofs.naming.name_catalog.Goals as goal

pub returns : goal.returns
returns g c =
    let old = g.F.FileSystem.made c.args.files.now in
    let named = g.F.FileSystem.made c.name_file.new.files in
    let folder = c.args.folder.now in
    let adds : AddsAll (file_named (catalog_at folder)) old named = subst (λ p. AddsAll (file_named p) old named) (c.as_str.ensures.value ∙ c.in_ok-path.ensures) c.in_ok-name_file.ensures in
    on_ok_weaker c.sync_folder.result (λ added. λ calls made.
    let x = added calls made in
    let y = adds x.0 x.1 in
    (y.0, y.1, x.2 ∙ ap (λ before. sync_folder folder ∷ before) y.2)) c.sync_folder.ensures.ok
