use Rattle.std.proofs.Common.{◌≡◌, ◌++◌, ◌≤◌, drop, length}
use Rattle.std.specs.List.{AllByRecursion}
use Rattle.cs_codec.specs.Texts.{plain_text}
use Rattle.cs_codec.proofs.plain.PlainColumnEncoding.read.Given as goal

abbrev pub invariant-loop : goal.invariant-loop
invariant-loop g l = record {
  so_far : l.bytes ≡ plain_text g.C.Cell.bytes (g.L.Column.cells l.column) ++ drop l.at l.bytes;
  hold : AllByRecursion g.C.Cell.is_cell (g.L.Column.cells l.column);
  count : length (g.L.Column.cells l.column) ≡ l.counter;
  within : l.at ≤ length l.bytes;
}
