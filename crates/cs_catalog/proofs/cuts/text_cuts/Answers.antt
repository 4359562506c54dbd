use Rattle.toml.specs.View.{view}
use Rattle.cs_schema.specs.declared.cells.Value.{Value}
use Rattle.cs_catalog.specs.Tree.{cut_of}
use Rattle.cs_schema.specs.Cuts.{cut_text}
use Rattle.cs_catalog.proofs.Reading.{cells_more, cells_stop}
use Rattle.cs_catalog.proofs.cuts.text_cuts.Goals as goal

pub returns-in-None-clause-refused : goal.returns-in-None-clause-refused
returns-in-None-clause-refused c _ =
    (c.no_cut.ensures, cells_stop view cut_of cut_text c.args.values.now c.loop-at.at c.index-values-at.result c.loop-at-test.true c.index-values-at.is c.in-None.ensures)

pub loop-at-preserved : goal.loop-at-preserved
loop-at-preserved c =
    rw (c.in_ok-push-in-Some.ensures.ok, c.as_str.ensures.value) (cells_more view cut_of cut_text Value.Text c.args.values.now c.loop-at.at c.index-values-at.result _ c.in-Some.word c.loop-at-test.true c.index-values-at.is c.in-Some.ensures c.loop-at.invariant)
