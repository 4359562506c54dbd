use Rattle.std.proofs.Common.{sym, ap, subst, ◌∙◌}
use Rattle.cs_schema.specs.declared.file_name.FileName.{FileName}
use Rattle.cs_schema.specs.FileNames.{HasName}
use Rattle.cs_rebuild.specs.FilesToWrite.{is_written}
use Rattle.cs_rebuild.proofs.FilesToWrite.{lost_is}
use Rattle.cs_rebuild.proofs.files_to_write.is_written.Goals as goal

pub returns-in-Seg : goal.returns-in-Seg
returns-in-Seg c =
    let C = c.args.catalog.now in
    let there = subst (HasName C) c.in-Seg.is c.requires in
    c.lost.ensures ∙ sym (lost_is C c.args.loss c.in-Seg.p c.in-Seg.s there) ∙ ap (is_written C c.args.loss) (sym c.in-Seg.is)

pub returns-in-Del : goal.returns-in-Del
returns-in-Del c =
    let C = c.args.catalog.now in
    let there = subst (HasName C) c.in-Del.is c.requires in
    c.lost-in-Del.ensures ∙ sym (lost_is C c.args.loss c.in-Del.p c.in-Del.s there) ∙ ap (is_written C c.args.loss) (sym c.in-Del.is)
