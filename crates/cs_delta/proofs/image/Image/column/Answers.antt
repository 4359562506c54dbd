use Rattle.std.proofs.Common.{◌<◌, length, List, [], ap, sym, ◌∙◌, map, arith, subst}
use Rattle.std.proofs.lemmas.List.{get_or-map, length-map}
use Rattle.cs_schema.specs.declared.kinds.Kind.{Kind}
use Rattle.cs_schema.specs.Values.{values, kind_of}
use Rattle.cs_delta.specs.KindedImage.{KindedImage}
use Rattle.cs_delta.proofs.Merged.{column_is}
use Rattle.cs_delta.proofs.image.Image.column.Goals as goal

pub returns-clause-values : goal.returns-clause-values
returns-clause-values c =
    let columns = c.self.inside.columns.items in
    let pairs = ap (λ (m : KindedImage). m.image.pairs) (sym c.self.view_is) in
    let K : List Kind → Type 0 = λ ks. c.args.j < length ks in
    let kinds : c.args.j < length (map kind_of columns) = subst K (ap (λ (m : KindedImage). m.kinds) (sym c.self.view_is)) c.requires in
    let l : c.args.j < length columns = omega (arith, length-map columns kind_of) in
    ap values c.index.ensures ∙ sym (get_or-map values columns c.args.j c.index.result.now [] l)
    ∙ sym (column_is c.self.inside.keys (map values columns) c.args.self.now.image c.args.j pairs c.self.invariant (omega (arith, length-map columns values)))
