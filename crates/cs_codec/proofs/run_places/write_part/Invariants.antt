use Rattle.std.proofs.Common.{◌≡◌, ◌-◌, ◌<◌, ◌≤◌, [], length, take, true, None, Some}
use Rattle.std.specs.Prelude.{slice_get}
use Rattle.cs_codec.specs.Columns.{cells_at}
use Rattle.cs_codec.specs.RunParts.{part_text, value_after}
use Rattle.cs_codec.specs.Texts.{differs}
use Rattle.cs_codec.proofs.run_places.write_part.Given as goal

abbrev pub invariant-loop-at : goal.invariant-loop-at
invariant-loop-at g l = record {
  within : (l.from ≤ l.at) × (l.at ≤ length l.places);
  opens : l.at < l.to → (x : g.row.C.Denot) → slice_get (cells_at (g.L.Column.cells l.column) l.places) l.at ≡ Some x → differs g.C.PartialEq.eq (value_after None (take l.at (cells_at (g.L.Column.cells l.column) l.places))) x ≡ true;
  over : l.to ≤ l.at → part_text g.C.Cell.bytes g.C.PartialEq.eq (cells_at (g.L.Column.cells l.column) l.places) l.to l.at ≡ [];
  text : l.out.items ≡ part_text g.C.Cell.bytes g.C.PartialEq.eq (cells_at (g.L.Column.cells l.column) l.places) l.from l.at;
}

abbrev pub decreases-loop-at : goal.decreases-loop-at
decreases-loop-at g l = l.to - l.at
