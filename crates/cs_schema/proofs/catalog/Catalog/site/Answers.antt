use Rattle.std.proofs.Common.{ap, ◌∙◌, get_or}
use Rattle.cs_schema.proofs.SiteLemmas.{site_from_1_to_16}
use Rattle.cs_schema.proofs.catalog.Catalog.site.Goals as goal

pub returns-clause-range : goal.returns-clause-range
returns-clause-range c =
    let found = c.index.ensures ∙ ap (λ q. get_or q.sites c.args.s c.index.result.now) (c.behind-self.view_is ∙ c.projection.ensures.is) in
    site_from_1_to_16 c.args.self.now c.args.p c.args.s c.index.result.now c.projection.ensures.rules c.requires.projection c.requires.segment found
