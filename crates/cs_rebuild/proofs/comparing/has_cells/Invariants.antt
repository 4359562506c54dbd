use Rattle.cs_schema.specs.Values.{values}
use Rattle.cs_rebuild.specs.Comparing.{AreAlike}
use Rattle.cs_rebuild.proofs.comparing.has_cells.Given as goal

-- the cells so far are equal
abbrev pub invariant-loop-k : goal.invariant-loop-k
invariant-loop-k l = AreAlike (values l.cells) (values l.column) l.numbers l.start l.k
