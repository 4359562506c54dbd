use Rattle.std.proofs.Common.{◌∙◌, ap}
use Rattle.std.proofs.lemmas.Result.{IfOk-weaker}
use Rattle.cs_codec.specs.Texts.{bitmaps_text}
use Rattle.cs_codec.proofs.BitmapEntries.{entries_are_text}
use Rattle.cs_codec.proofs.bitmaps.BitmapsColumnEncoding.write.Goals as goal

pub returns-in-Cells : goal.returns-in-Cells
returns-in-Cells g c = IfOk-weaker c.text_of_all.result _ _ (λ out e. λ x h.
    let kept = rw c.in-Cells.is at h.keeps in
    e ∙ ap (λ z. bitmaps_text g.C.Cell.bytes g.C.PartialEq.eq g.C.Ord.cmp z) kept) c.text_of_all.ensures

pub returns-in-Bitmaps : goal.returns-in-Bitmaps
returns-in-Bitmaps g c = IfOk-weaker c.text_of.result _ _ (λ out e. λ x h.
    let are = rw c.in-Bitmaps.is at h.keeps in
    e ∙ entries_are_text g.C.Cell.bytes g.C.PartialEq.eq (record { itself = g.met.C.Eq.laws.refl; exact = g.met.C.Cell.exact }) g.C.Ord.cmp g.met.C.Ord.total g.met.C.Ord.matches_eq c.in-Bitmaps.bitmaps x are) c.text_of.ensures
