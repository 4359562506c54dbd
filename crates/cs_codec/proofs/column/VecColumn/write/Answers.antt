use Rattle.std.proofs.Common.{◌≡◌, ◌++◌, get_or, ap, ◌∙◌}
use Rattle.std.proofs.lemmas.Option.{get_or_from_slice_get}
use Rattle.std.proofs.lemmas.Result.{on_ok_weaker}
use Rattle.cs_codec.proofs.column.VecColumn.write.Goals as goal

pub returns : goal.returns
returns g c = on_ok_weaker c.write.result
    (λ e x h.
    let here : c.index-as_slice-at.result ≡ x = c.index-as_slice-at.is ∙ ap (λ l. get_or l c.args.at c.index-as_slice-at.result) c.as_slice.ensures.value ∙ get_or_from_slice_get c.args.self.now.items c.args.at x c.index-as_slice-at.result h in
    e ∙ ap (λ z. c.args.out.now.items ++ g.C.Cell.bytes z) here)
    c.write.ensures.ok
