use Rattle.std.proofs.Common.{◌≡◌, ◌++◌, ◌∷◌, [], get_or, ap, ◌∙◌}
use Rattle.std.proofs.lemmas.Option.{get_or_from_slice_get}
use Rattle.cs_codec.proofs.column.VecColumn.push_cell.Goals as goal

pub returns : goal.returns
returns g c = λ x h.
    let here : c.index-as_slice-at.result ≡ x = c.index-as_slice-at.is ∙ ap (λ l. get_or l c.args.at c.index-as_slice-at.result) c.as_slice.ensures.value ∙ get_or_from_slice_get c.args.other.now.items c.args.at x c.index-as_slice-at.result h in
    c.in_ok-push.ensures.items ∙ ap (λ z. c.args.self.now.items ++ z ∷ []) (c.copy.ensures ∙ here)
