use Rattle.std.proofs.Common.{◌≡◌, Some, take, map}
use Rattle.toml.specs.View.{view}
use Rattle.cs_schema.specs.declared.cells.Value.{Value as Cell}
use Rattle.cs_schema.specs.Document.{read_all}
use Rattle.cs_catalog.specs.Tree.{cut_of}
use Rattle.cs_schema.specs.Cuts.{cut_integer}
use Rattle.cs_catalog.proofs.cuts.integer_cuts.Given as goal

abbrev pub invariant-loop-at : goal.invariant-loop-at
invariant-loop-at l = read_all cut_integer (map cut_of (map view (take l.at l.values))) ≡ Some (map Cell.Int l.found.items)
