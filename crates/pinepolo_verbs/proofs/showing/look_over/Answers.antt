use Rattle.std.proofs.Common.{◌≡◌, List, ℕ, subst, sym}
use Rattle.cs_schema.specs.FileNames.{surviving}
use Rattle.cs_schema.specs.declared.file_name.FileName.{FileName}
use Rattle.cs_store.specs.FileSet.{contents_of}
use Rattle.cs_store.specs.LoadReadable.{LoadsReadable}
use Rattle.cs_inspection.specs.BadFiles.{AreBadFiles}
use Rattle.cs_parallel_io.specs.Standing.{standing}
use Rattle.pinepolo_answers.specs.FileLines.{AreInOrder}
use Rattle.pinepolo_verbs.proofs.showing.look_over.Goals as goal

pub lines_of-requires : goal.lines_of-requires
lines_of-requires g c = subst AreInOrder (sym c.as_slice.ensures.value) c.in-Ok-bad_files.ensures.in_order

pub returns-in-Ok-lines_of : goal.returns-in-Ok-lines_of
returns-in-Ok-lines_of g c =
    let read : c.as_slice-unreadable.result.now ≡ c.in-Ok.found.unreadable.items = cc in
    record {
      files = c.in-Ok.found.files;
      unreadable = c.in-Ok.found.unreadable.items;
      loads = subst (λ (L : List ℕ). LoadsReadable (standing g.S.SharedSource.answers) (standing g.S.SharedSource.fails) (surviving c.args.catalog.now L) c.args.source.now c.in-Ok.found.files c.in-Ok.found.unreadable.items c.args.source.now) c.none.ensures c.in-Ok.ensures.ok;
      inspected = subst (λ (U : List FileName). AreBadFiles c.args.catalog.now (contents_of c.in-Ok.found.files) U c.in-Ok-bad_files.bad.items) read c.in-Ok-bad_files.ensures;
      said = rw c.as_slice.ensures.value at c.in-Ok-lines_of.ensures;
    }
