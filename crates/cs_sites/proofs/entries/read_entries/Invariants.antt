use Rattle.std.proofs.Common.{◌≡◌, ◌==◌, Some, take, map}
use Rattle.std.specs.List.{IsDistinct}
use Rattle.toml.specs.View.{view}
use Rattle.cs_schema.specs.Document.{read_all}
use Rattle.cs_sites.specs.Reading.{entry_of}
use Rattle.cs_sites.proofs.entries.read_entries.Given as goal

abbrev pub invariant-loop-at : goal.invariant-loop-at
invariant-loop-at l = record {
  read : read_all entry_of (map view (take l.at l.tables)) ≡ Some l.found.items;
  distinct : IsDistinct ◌==◌ (map (λ e. e.number) l.found.items);
}
