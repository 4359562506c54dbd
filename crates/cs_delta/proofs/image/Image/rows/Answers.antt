use Rattle.std.proofs.Common.{ap, sym, map, ◌∙◌}
use Rattle.cs_schema.specs.Values.{values}
use Rattle.cs_delta.specs.KindedImage.{KindedImage}
use Rattle.cs_delta.proofs.Merged.{rows_are}
use Rattle.cs_delta.proofs.image.Image.rows.Goals as goal

pub returns : goal.returns
returns c =
    c.len.ensures ∙ sym (rows_are c.self.inside.keys (map values c.self.inside.columns.items) c.args.self.now.image (ap (λ (m : KindedImage). m.image.pairs) (sym c.self.view_is)))
