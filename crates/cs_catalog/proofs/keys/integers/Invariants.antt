use Rattle.std.proofs.Common.{◌≡◌, Some, take, map}
use Rattle.toml.specs.Data.{as_integer}
use Rattle.toml.specs.View.{view}
use Rattle.cs_schema.specs.Document.{read_all}
use Rattle.cs_catalog.proofs.keys.integers.Given as goal

abbrev pub invariant-loop-value : goal.invariant-loop-value
invariant-loop-value l = read_all as_integer (map view (take l.value-index l.values)) ≡ Some l.found.items
