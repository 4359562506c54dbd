use Rattle.std.proofs.Common.{◌≡◌, ◌∙◌, slice_index, ap, subst, arith, true}
use Rattle.cs_schema.specs.CatalogData.{projection}
use Rattle.cs_schema.specs.Lists.{member}
use Rattle.cs_safety.proofs.BitSets.{none_in}
use Rattle.cs_safety.proofs.Arrays.{at_member}
use Rattle.cs_safety.proofs.graph.held.Goals as goal

pub loop-c-init : goal.loop-c-init
loop-c-init c = none_in

pub with_column-found-requires : goal.with_column-found-requires
with_column-found-requires c =
    let x = slice_index c.columns_of-columns.result.now c.loop-c.c-index in
    let m = at_member c.columns_of-columns.result.now c.loop-c.c-index c.loop-c-test.true in
    let inside = (c.columns_of-columns.ensures.rules.projections c.args.p c.requires).columns x (subst (λ xs. member xs x ≡ true) (c.columns_of-columns.ensures.columns ∙ ap (λ p. (projection c.args.catalog.now p).columns) c.from.ensures) m) in
    let few = c.columns_of-columns.ensures.rules.column_range.1 in
    omega (arith, inside, few)
