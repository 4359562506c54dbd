use Rattle.std.proofs.Common.{◌∷◌, [], ◌++◌, cond, ap, ◌∙◌}
use Rattle.cs_delta.specs.declared.layer_cells.CellPlace.{CellPlace}
use Rattle.cs_delta.proofs.CellPlaces.{text_added}
use Rattle.cs_delta.proofs.layer_cells.LayerCells.push_text.Goals as goal

pub returns-clause-ok : goal.returns-clause-ok
returns-clause-ok c =
    let places = c.self.inside.places.items in
    let pushed = c.push-2.ensures.items ∙ ap (λ b. cond b (places ++ CellPlace.Text c.len-count.result ∷ []) places) c.if-is_err.ensures.negation in
    text_added c.self.inside.texts c.push.new.self c.args.text.now places c.push-2.new.self.items c.args.self.now c.len-count.result c.self.view_is c.self.invariant c.len-count.ensures c.in_ok-push.ensures.ok pushed
