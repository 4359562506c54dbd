use Rattle.std.proofs.Common.{◌≡◌, ◌++◌, take, length}
use Rattle.std.specs.Prelude.{flat_map}
use Rattle.cs_codec.specs.Cells.{number}
use Rattle.cs_codec.proofs.bitmap.write_bitmap.Given as goal

abbrev pub invariant-loop-length : goal.invariant-loop-length
invariant-loop-length g l = l.out.items ≡ l.fn.out.items ++ (g.C.Cell.bytes l.value ++ number (length l.length-items) ++ flat_map number (take l.length-index l.length-items))
