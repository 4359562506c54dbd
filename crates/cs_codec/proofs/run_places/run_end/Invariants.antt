use Rattle.std.proofs.Common.{◌-◌, ◌≡◌, ◌+◌, ◌≤◌, ◌<◌, drop, Some}
use Rattle.std.specs.Prelude.{slice_get}
use Rattle.cs_codec.specs.Columns.{cells_at}
use Rattle.cs_codec.specs.Texts.{kept}
use Rattle.cs_codec.proofs.run_places.run_end.Given as goal

abbrev pub invariant-loop-end : goal.invariant-loop-end
invariant-loop-end g l = record {
  within : (l.start < l.end) × (l.end ≤ l.stop);
  run : (x : g.row.C.Denot) → slice_get (cells_at (g.L.Column.cells l.column) l.places) l.start ≡ Some x
      → l.start + 1 + kept g.C.PartialEq.eq x (drop (l.start + 1) (cells_at (g.L.Column.cells l.column) l.places)) ≡ l.end + kept g.C.PartialEq.eq x (drop l.end (cells_at (g.L.Column.cells l.column) l.places));
}

abbrev pub decreases-loop-end : goal.decreases-loop-end
decreases-loop-end g l = l.stop - l.end
