use Rattle.std.proofs.Common.{◌≡◌, ◌+◌, ◌-◌, ◌++◌, take, drop, length, List}
use Rattle.cs_codec.specs.BitmapParts.{AreBitmaps}
use Rattle.cs_codec.proofs.bitmaps.add_cells.Given as goal

abbrev pub invariant-loop-at : goal.invariant-loop-at
invariant-loop-at g l = record {
  are : (front : List g.row.C.Denot) → l.before ≡ length front → AreBitmaps g.C.PartialEq.eq g.C.Ord.cmp l.fn.bitmaps front → AreBitmaps g.C.PartialEq.eq g.C.Ord.cmp l.bitmaps (front ++ take (l.at - l.from) (drop l.from (g.L.Column.cells l.column)));
  position_is : l.position ≡ l.before + (l.at - l.from);
}
