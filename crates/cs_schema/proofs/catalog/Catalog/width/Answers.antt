use Rattle.std.proofs.Common.{◌≡◌, length, arith, rules}
use Rattle.cs_schema.specs.CatalogData.{projection}
use Rattle.cs_schema.proofs.Widths.{at_most_32}
use Rattle.cs_schema.proofs.catalog.Catalog.width.Goals as goal

pub returns-clause-range : goal.returns-clause-range
returns-clause-range c =
    let count : c.len.result ≡ length (projection c.args.self.now c.args.p).columns = search rules in
    let here = c.projection.ensures.rules.projections c.args.p c.requires in
    (omega (arith, count, here.some_column), omega (arith, count, at_most_32 c.args.self.now c.args.p c.projection.ensures.rules c.requires))
