use Rattle.std.proofs.Common.{◌≡◌, take}
use Rattle.cs_codec.specs.Columns.{cells_at}
use Rattle.cs_codec.specs.Texts.{plain_text}
use Rattle.cs_codec.proofs.plain.encode_at.Given as goal

abbrev pub invariant-loop-place : goal.invariant-loop-place
invariant-loop-place g l = l.bytes.items ≡ plain_text g.C.Cell.bytes (cells_at (g.L.Column.cells l.column) (take l.place-index l.places))
