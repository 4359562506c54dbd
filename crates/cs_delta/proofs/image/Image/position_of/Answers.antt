use Rattle.std.proofs.Common.{ap, sym, ◌∙◌, map}
use Rattle.std.specs.List.{position}
use Rattle.cs_schema.specs.Values.{values}
use Rattle.cs_delta.specs.KindedImage.{KindedImage}
use Rattle.cs_delta.proofs.Merged.{keys_are}
use Rattle.cs_delta.proofs.KeyPlaces.{is_key}
use Rattle.cs_delta.proofs.image.Image.position_of.Goals as goal

pub returns : goal.returns
returns c =
    let k = keys_are c.self.inside.keys (map values c.self.inside.columns.items) c.args.self.now.image (ap (λ (m : KindedImage). m.image.pairs) (sym c.self.view_is)) c.self.invariant in
    c.position_of.ensures ∙ ap (position (is_key c.args.key)) (sym k)
