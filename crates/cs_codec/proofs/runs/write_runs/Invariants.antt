use Rattle.std.proofs.Common.{◌≡◌, ◌+◌, take, length}
use Rattle.cs_codec.specs.Runs.{expand, written_from, zip_runs}
use Rattle.cs_codec.proofs.runs.write_runs.Given as goal

abbrev pub invariant-loop-at : goal.invariant-loop-at
invariant-loop-at g l = record {
  written : l.out.items ≡ written_from g.C.Cell.bytes 1 (take l.at (zip_runs (g.L.Column.cells l.values) l.counts));
  position_is : l.position ≡ 1 + length (expand (take l.at (zip_runs (g.L.Column.cells l.values) l.counts)));
}
