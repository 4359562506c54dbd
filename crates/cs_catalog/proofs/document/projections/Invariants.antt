use Rattle.std.proofs.Common.{◌≡◌, Some, take, map}
use Rattle.std.specs.Prelude.{option_and_then}
use Rattle.toml.specs.Data.{as_table}
use Rattle.toml.specs.View.{view}
use Rattle.cs_schema.specs.Document.{read_all}
use Rattle.cs_catalog.specs.Tree.{projection_of}
use Rattle.cs_catalog.proofs.document.projections.Given as goal

abbrev pub invariant-loop-at : goal.invariant-loop-at
invariant-loop-at l = read_all (λ d. option_and_then projection_of (as_table d)) (map view (take l.at l.values)) ≡ Some l.found.items
