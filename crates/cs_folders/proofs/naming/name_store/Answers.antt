use Rattle.std.proofs.Common.{◌∙◌, codes, subst}
use Rattle.std.proofs.lemmas.Result.{on_ok_weaker}
use Rattle.cs_file_system.specs.Calls.{AddsAll}
use Rattle.cs_file_system.specs.Placing.{folder_put}
use Rattle.cs_folders.specs.Paths.{path_at}
use Rattle.cs_folders.proofs.naming.name_store.Goals as goal

pub returns : goal.returns
returns g c =
    let old = g.F.FileSystem.made c.name_sites.new.files in
    let new = g.F.FileSystem.made c.put_folder.new.files in
    on_ok_weaker c.put_folder.result (λ added.
    let put : AddsAll (folder_put c.args.beside.now c.args.path.now (path_at c.args.path.now (codes ".."))) old new = subst (λ p. AddsAll (folder_put c.args.beside.now c.args.path.now p) old new) (c.as_str.ensures.value ∙ c.in_ok-parent.ensures) added in
    λ calls made.
    let x = put calls made in
    record { before = x.0; last = x.2; whole = c.in_ok-name_sites.ensures x.0 x.1 }) c.put_folder.ensures
