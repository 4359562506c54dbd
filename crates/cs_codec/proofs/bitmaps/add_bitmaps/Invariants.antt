use Rattle.std.specs.BTreeMap.{IsOrdered, btree_map_len}
use Rattle.cs_codec.proofs.BitmapSteps.{JoinsAt}
use Rattle.cs_codec.proofs.bitmaps.add_bitmaps.Given as goal

abbrev pub invariant-loop-value : goal.invariant-loop-value
invariant-loop-value g l = record {
  joins : JoinsAt g.C.Ord.cmp l.before l.fn.bitmaps l.fn.others l.bitmaps l.others;
  ordered : IsOrdered g.C.Ord.cmp l.bitmaps;
}

abbrev pub decreases-loop-value : goal.decreases-loop-value
decreases-loop-value g l = btree_map_len l.others
