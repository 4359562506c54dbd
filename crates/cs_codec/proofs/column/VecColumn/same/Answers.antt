use Rattle.std.proofs.Common.{◌≡◌, Some, get_or, sym, ap, ◌∙◌}
use Rattle.std.specs.Prelude.{slice_get}
use Rattle.std.proofs.lemmas.Option.{slice_get-get_or}
use Rattle.cs_codec.proofs.RunColumns.{same_cell}
use Rattle.cs_codec.proofs.column.VecColumn.same.Goals as goal

pub returns : goal.returns
returns g c =
    let xs = c.args.self.now.items in
    let ys = c.args.other.now.items in
    let x = c.index-as_slice-at.result in
    let y = c.index-as_slice-other_at.result in
    let here : slice_get xs c.args.at ≡ Some x = slice_get-get_or xs c.args.at x c.requires.here ∙ ap Some (sym (c.index-as_slice-at.is ∙ ap (λ l. get_or l c.args.at x) c.as_slice.ensures.value)) in
    let there : slice_get ys c.args.other_at ≡ Some y = slice_get-get_or ys c.args.other_at y c.requires.there ∙ ap Some (sym (c.index-as_slice-other_at.is ∙ ap (λ l. get_or l c.args.other_at y) c.as_slice-2.ensures.value)) in
    (λ t. here ∙ ap Some (g.met.C.Cell.exact x y (sym c.eq.ensures ∙ t)) ∙ sym there, λ e. c.eq.ensures ∙ ap (λ z. g.C.PartialEq.eq z y) (same_cell x y (sym here ∙ e ∙ there)) ∙ g.met.C.Eq.laws.refl y)
