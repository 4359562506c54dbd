use Rattle.std.proofs.Common.{◌+◌, ap, ◌∙◌}
use Rattle.std.specs.Ordering.{nat_cmp}
use Rattle.cs_schema.specs.Order.{placed}
use Rattle.cs_rebuild.proofs.BuiltFiles.{one_more_site}
use Rattle.cs_rebuild.proofs.building.every_site.Goals as goal

pub loop-site-preserved : goal.loop-site-preserved
loop-site-preserved c = c.with-loss.ensures.place ∙ ap (placed nat_cmp (c.loop-site.site + 1)) c.loop-site.invariant ∙ one_more_site c.loop-site.site
