use Rattle.std.proofs.Common.{ap, ◌∙◌}
use Rattle.cs_catalog.specs.Repeats.{neighbors_differ}
use Rattle.cs_catalog.specs.Tree.{texts}
use Rattle.cs_catalog.proofs.SortedTexts.{sorted_differ}
use Rattle.cs_catalog.proofs.names.least_repeated.Goals as goal

pub returns : goal.returns
returns c =
    c.equal_neighbor.ensures
    ∙ ap (λ l. neighbors_differ (texts l)) c.deref.ensures.value
    ∙ sorted_differ c.args.names.items c.sort_unstable.new.self.items c.sort_unstable.ensures.permutation c.sort_unstable.ensures.sorted
