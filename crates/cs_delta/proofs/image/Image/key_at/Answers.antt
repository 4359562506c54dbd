use Rattle.std.proofs.Common.{List, ℕ, get_or, ap, sym, ◌∙◌, map, arith}
use Rattle.cs_schema.specs.Values.{values}
use Rattle.cs_delta.specs.KindedImage.{KindedImage}
use Rattle.cs_delta.proofs.Merged.{rows_are, keys_are}
use Rattle.cs_delta.proofs.image.Image.key_at.Goals as goal

pub at-requires : goal.at-requires
at-requires c =
    let e = rows_are c.self.inside.keys (map values c.self.inside.columns.items) c.args.self.now.image (ap (λ (m : KindedImage). m.image.pairs) (sym c.self.view_is)) in
    omega (arith, e, c.requires)

pub returns : goal.returns
returns c =
    let k = keys_are c.self.inside.keys (map values c.self.inside.columns.items) c.args.self.now.image (ap (λ (m : KindedImage). m.image.pairs) (sym c.self.view_is)) c.self.invariant in
    c.at.ensures ∙ sym (ap (λ (a : List ℕ). get_or a c.args.i 0) k)
