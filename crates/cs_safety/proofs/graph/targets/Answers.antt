use Rattle.std.proofs.Common.{◌≡◌, ◌∙◌, slice_index, ap, subst, arith, true}
use Rattle.cs_schema.specs.CatalogData.{projection}
use Rattle.cs_schema.specs.Lists.{member}
use Rattle.cs_safety.proofs.BitSets.{none_in}
use Rattle.cs_safety.proofs.Arrays.{at_member}
use Rattle.cs_safety.proofs.graph.targets.Goals as goal

pub loop-q-init : goal.loop-q-init
loop-q-init c = none_in

pub with-found-requires : goal.with-found-requires
with-found-requires c =
    let x = slice_index c.joins_of-joins.result.now c.loop-q.q-index in
    let m = at_member c.joins_of-joins.result.now c.loop-q.q-index c.loop-q-test.true in
    let inside = ((c.joins_of-joins.ensures.rules.projections c.args.p c.requires).joins x (subst (λ xs. member xs x ≡ true) (c.joins_of-joins.ensures.joins ∙ ap (λ p. (projection c.args.catalog.now p).joins) c.from.ensures) m)).0 in
    let few = c.joins_of-joins.ensures.rules.projection_range.1 in
    omega (arith, inside, few)
