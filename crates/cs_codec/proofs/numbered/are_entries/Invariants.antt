use Rattle.std.proofs.Common.{◌≡◌, ◌≢◌, ◌<◌, ◌++◌, List, [], ℕ, slice_index_or, take}
use Rattle.std.specs.Prelude.{flat_map}
use Rattle.cs_codec.specs.Texts.{bitmap_text}
use Rattle.cs_codec.specs.BitmapReading.{HaveBitmaps}
use Rattle.cs_codec.proofs.numbered.are_entries.Given as goal

abbrev pub invariant-loop-at : goal.invariant-loop-at
invariant-loop-at g l = record {
  text : (cells : List g.row.C.Denot) → HaveBitmaps g.C.PartialEq.eq (g.L.Column.cells l.values) l.bitmaps cells → l.bytes ≡ flat_map (bitmap_text g.C.Cell.bytes g.C.PartialEq.eq cells) (take l.at (g.L.Column.cells l.values)) ++ l.left;
  all : (n : ℕ) → n < l.at → slice_index_or l.bitmaps n [] ≢ [];
}
