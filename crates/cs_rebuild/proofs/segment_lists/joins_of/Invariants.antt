use Rattle.std.proofs.Common.{◌≡◌, ◌+◌, ◌*◌, ◌≤◌, ◌++◌, length, take}
use Rattle.cs_rebuild.specs.Surveys.{joins_among, joins_at}
use Rattle.cs_rebuild.proofs.segment_lists.joins_of.Given as goal

abbrev pub invariant-loop-i : goal.invariant-loop-i
invariant-loop-i l = record {
  few : length l.joins.items ≤ l.i * 8;
  all : l.joins.items ≡ joins_among l.catalog (take l.i l.segments);
}

abbrev pub invariant-loop-q : goal.invariant-loop-q
invariant-loop-q l = record {
  few : length l.joins.items ≤ l.i * 8 + l.q;
  all : l.joins.items ≡ joins_among l.catalog (take l.i l.segments) ++ joins_at l.catalog l.p l.s l.q;
}
