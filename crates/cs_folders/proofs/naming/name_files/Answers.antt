use Rattle.std.proofs.Common.{◌∙◌, [], ◌∷◌, subst, get_or, arith}
use Rattle.std.proofs.lemmas.Option.{slice_get-get_or}
use Rattle.std.proofs.lemmas.Result.{on_ok_weaker}
use Rattle.cs_schema.specs.declared.file_name.FileName.{FileName}
use Rattle.cs_file_system.specs.Calls.{AddsAll, sync_folder}
use Rattle.cs_folders.specs.Naming.{file_named}
use Rattle.cs_folders.specs.Paths.{file_at}
use Rattle.cs_folders.proofs.Named.{extends_by, extends_on, one_more}
use Rattle.cs_folders.proofs.naming.name_files.Goals as goal

pub loop-name-preserved : goal.loop-name-preserved
loop-name-preserved g c =
    let old = g.F.FileSystem.made c.loop-name.files in
    let new = g.F.FileSystem.made c.name_file.new.files in
    let folder = c.args.folder.now in
    let names = c.args.names.now in
    let i = c.loop-name.name-index in
    let name = get_or names i (FileName.Seg 0 0) in
    let adds : AddsAll (file_named (file_at folder name)) old new = subst (λ p. AddsAll (file_named p) old new) (c.as_str.ensures.value ∙ c.in_ok-path.ensures) c.in_ok-name_file.ensures in (
      one_more folder names i name old new (slice_get-get_or names i (FileName.Seg 0 0) c.loop-name-test.true) c.loop-name.invariant.0 adds,
      extends_on _ _ _ c.loop-name.invariant.1 (extends_by (file_named (file_at folder name)) old new adds),
    )

pub returns-clause-named : goal.returns-clause-named
returns-clause-named g c = on_ok_weaker c.sync_folder.result (λ added. λ calls made k name less is.
    let x = extends_by (sync_folder c.args.folder.now ∷ []) _ _ added calls made in
    x.2 _ (c.loop-name.invariant.0 x.0 x.1 k name (omega (arith, less, c.loop-name-test.false)) is)) c.sync_folder.ensures.ok

pub returns-clause-more : goal.returns-clause-more
returns-clause-more g c = on_ok_weaker c.sync_folder.result (λ added. extends_on _ _ _ c.loop-name.invariant.1 (extends_by (sync_folder c.args.folder.now ∷ []) _ _ added)) c.sync_folder.ensures.ok
