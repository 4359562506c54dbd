use Rattle.std.proofs.Common.{◌≡◌, map}
use Rattle.std.specs.Prelude.{flat_map}
use Rattle.std.specs.Map.Iter.{deref_pair}
use Rattle.cs_codec.specs.Bitmaps.{entry_text}
use Rattle.cs_codec.proofs.bitmaps.text_of.Given as goal

abbrev pub invariant-loop-value : goal.invariant-loop-value
invariant-loop-value g l = l.out.items ≡ flat_map (entry_text g.C.Cell.bytes) (map deref_pair l.yielded)
