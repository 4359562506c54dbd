use Rattle.std.proofs.Common.{ap, subst, sym, ◌∙◌, ◌≡◌, true, get_or}
use Rattle.cs_schema.specs.Lists.{member}
use Rattle.cs_schema.specs.CatalogData.{projection}
use Rattle.cs_schema.proofs.Lists.{member_at}
use Rattle.cs_schema.proofs.catalog.Catalog.column_kind.Goals as goal

pub kind-requires : goal.kind-requires
kind-requires c =
    let is = c.behind-self.view_is ∙ c.projection.ensures.is in
    let here = c.projection.ensures.rules.projections c.args.p c.requires.projection in
    let e : c.index.result.now ≡ get_or (projection c.args.self.now c.args.p).columns c.args.j c.index.result.now = c.index.ensures ∙ ap (λ q. get_or q.columns c.args.j c.index.result.now) is in
    here.columns c.index.result.now
    (subst (λ n. member (projection c.args.self.now c.args.p).columns n ≡ true) (sym e) (member_at (projection c.args.self.now c.args.p).columns c.args.j c.index.result.now c.requires.column))
