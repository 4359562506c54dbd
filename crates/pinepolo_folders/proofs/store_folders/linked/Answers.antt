use Rattle.std.proofs.Common.{get_or}
use Rattle.std.proofs.lemmas.Option.{slice_get-get_or}
use Rattle.cs_schema.specs.declared.file_name.FileName.{FileName}
use Rattle.pinepolo_folders.proofs.FolderLemmas.{links_more}
use Rattle.pinepolo_folders.proofs.store_folders.linked.Goals as goal

pub loop-name-preserved : goal.loop-name-preserved
loop-name-preserved g c =
    let names = c.deref-name-items.result.now in
    let i = c.loop-name.name-index in
    let name = get_or names i (FileName.Seg 0 0) in
    links_more c.args.path.now names i name c.loop-name.links.places c.note.new.self.places (slice_get-get_or names i (FileName.Seg 0 0) c.loop-name-test.true) c.loop-name.invariant c.in_ok-note.ensures
