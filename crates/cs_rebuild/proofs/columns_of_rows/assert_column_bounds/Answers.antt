use Rattle.std.proofs.Common.{All, subst, sym, FitsSigned}
use Rattle.std.specs.Int.{w64}
use Rattle.cs_schema.specs.Values.{IsOfKind, kind_of, values}
use Rattle.cs_schema.specs.declared.kinds.Kind.{Kind}
use Rattle.cs_schema.specs.declared.cells.Cells.{Cells}
use Rattle.cs_schema.specs.declared.cells.Value.{Value}
use Rattle.cs_rebuild.specs.Building.{IsShortText}
use Rattle.cs_rebuild.proofs.AllMeet.{mapped_meet}
use Rattle.cs_rebuild.proofs.columns_of_rows.assert_column_bounds.Goals as goal

pub returns-in-Ints : goal.returns-in-Ints
returns-in-Ints c =
    let fit = subst (All (FitsSigned w64)) c.deref.ensures.value c.assert_int_bounds.ensures in
    subst (λ (x : Cells). All (IsOfKind (kind_of x)) (values x)) (sym c.in-Ints.is) (mapped_meet Value.Int (FitsSigned w64) (IsOfKind Kind.Int) (λ x h. h) c.in-Ints.ints.items fit)

pub returns-in-Texts : goal.returns-in-Texts
returns-in-Texts c =
    let fit = c.assert_text_bounds.ensures in
    subst (λ (x : Cells). All (IsOfKind (kind_of x)) (values x)) (sym c.in-Texts.is) (mapped_meet Value.Text IsShortText (IsOfKind Kind.Text) (λ x h. (h.utf8, h.short)) c.in-Texts.texts fit)
