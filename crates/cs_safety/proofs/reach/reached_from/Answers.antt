use Rattle.std.proofs.Common.{ap, lit<, ◌∙◌}
use Rattle.cs_safety.specs.Reach.{within}
use Rattle.cs_safety.proofs.reach.reached_from.Goals as goal

pub returns : goal.returns
returns c q =
    c.levels_from.ensures.levels 7 (lit< tt) q
    ∙ ap (λ o. within c.args.graph.now o c.levels_from.result.start 7 q) c.levels_from.ensures.allowed
    ∙ ap (λ a. within c.args.graph.now c.args.allowed a 7 q) c.levels_from.ensures.start
