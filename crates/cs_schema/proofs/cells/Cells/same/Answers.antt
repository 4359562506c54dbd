use Rattle.std.proofs.Common.{Less, Greater}
use Rattle.cs_schema.proofs.CellLemmas.{int_before_text, text_after_int, texts_same, told_apart}
use Rattle.cs_schema.proofs.cells.Cells.same.Goals as goal

pub returns-in-Ints-Texts : goal.returns-in-Ints-Texts
returns-in-Ints-Texts c =
    let h = rw c.in-Ints-Texts.is-0 at c.requires.here in
    let k = rw c.in-Ints-Texts.is-1 at c.requires.there in
    rw (c.in-Ints-Texts.is-0, c.in-Ints-Texts.is-1)
    (told_apart _ _ Less (int_before_text c.in-Ints-Texts.field-0-0.items c.in-Ints-Texts.field-0-1 c.args.at c.args.other_at h k))

pub returns-in-Texts-Ints : goal.returns-in-Texts-Ints
returns-in-Texts-Ints c =
    let h = rw c.in-Texts-Ints.is-0 at c.requires.here in
    let k = rw c.in-Texts-Ints.is-1 at c.requires.there in
    rw (c.in-Texts-Ints.is-0, c.in-Texts-Ints.is-1)
    (told_apart _ _ Greater (text_after_int c.in-Texts-Ints.field-0-0 c.in-Texts-Ints.field-0-1.items c.args.at c.args.other_at h k))

pub returns-in-Texts-Texts : goal.returns-in-Texts-Texts
returns-in-Texts-Texts c =
    let through = texts_same c.in-Texts-Texts.texts c.in-Texts-Texts.others c.args.at c.args.other_at in
    rw (c.in-Texts-Texts.is-0, c.in-Texts-Texts.is-1) (λ same. through.0 (c.same.ensures.0 same), λ equal. c.same.ensures.1 (through.1 equal))
