use Rattle.std.proofs.Common.{to_z-of_z, arith}
use Rattle.toml.specs.View.{view}
use Rattle.cs_schema.specs.declared.cells.Value.{Value}
use Rattle.cs_catalog.specs.Tree.{cut_of}
use Rattle.cs_schema.specs.Cuts.{cut_integer}
use Rattle.cs_catalog.proofs.Reading.{cells_more, cells_stop}
use Rattle.cs_catalog.proofs.cuts.integer_cuts.Goals as goal

pub returns-in-None-clause-refused : goal.returns-in-None-clause-refused
returns-in-None-clause-refused c _ =
    (c.no_cut.ensures, cells_stop view cut_of cut_integer c.args.values.now c.loop-at.at c.index-values-at.result c.loop-at-test.true c.index-values-at.is c.in-None.ensures)

pub loop-at-preserved : goal.loop-at-preserved
loop-at-preserved c =
    let more = cells_more view cut_of cut_integer Value.Int c.args.values.now c.loop-at.at c.index-values-at.result _ c.in-Some.number c.loop-at-test.true c.index-values-at.is c.in-Some.ensures c.loop-at.invariant in
    rw c.in_ok-push-in-Some.ensures.items (grind (arith, to_z-of_z, more))
