use Rattle.std.proofs.Common.{◌≡◌, ◌+◌, ◌*◌, ◌≤◌, ◌++◌, length}
use Rattle.cs_rebuild.proofs.SurveySteps.{survivors_below, survivors_of}
use Rattle.cs_rebuild.proofs.segment_lists.surviving_segments.Given as goal

abbrev pub invariant-loop-p : goal.invariant-loop-p
invariant-loop-p l = record {
  few : length l.segments.items ≤ l.p * 16;
  all : l.segments.items ≡ survivors_below l.catalog l.loss l.p;
}

abbrev pub invariant-loop-s : goal.invariant-loop-s
invariant-loop-s l = record {
  few : length l.segments.items ≤ l.p * 16 + l.s;
  all : l.segments.items ≡ survivors_below l.catalog l.loss l.p ++ survivors_of l.catalog l.loss l.p l.s;
}
