use Rattle.std.proofs.Common.{◌≡◌, Some, length, take}
use Rattle.cs_rows.specs.Survivors.{image_at}
use Rattle.cs_rebuild.specs.Reading.{AreOthersKept, AreJoinsKept}
use Rattle.cs_rebuild.proofs.reading.keep.Given as goal

abbrev pub invariant-loop-q : goal.invariant-loop-q
invariant-loop-q l = record {
  rest : l.joins.items ≡ take (length l.joins.items) l.fn.held.joins.items;
  catalog : l.survivors.catalog ≡ l.fn.survivors.catalog;
  image : image_at l.survivors l.p l.s ≡ Some l.fn.held.image;
  joins : AreJoinsKept l.survivors l.p l.s l.fn.held.joins.items (length l.joins.items);
  others : AreOthersKept l.fn.survivors (l.p, l.s) l.survivors;
}

abbrev pub decreases-loop-q : goal.decreases-loop-q
decreases-loop-q l = length l.joins.items
