use Rattle.std.proofs.Common.{◌≡◌, ℕ, ◌+◌, ◌-◌, ◌<◌, ◌≤◌, get_or}
use Rattle.cs_schema.proofs.ends.move_ends.Given as goal

abbrev pub invariant-loop-end : goal.invariant-loop-end
invariant-loop-end l = record {
  done : (k : ℕ) → k < l.end-index → get_or l.ends k 0 ≡ get_or l.initial.ends k 0 - l.less + l.more;
  left : (k : ℕ) → l.end-index ≤ k → get_or l.ends k 0 ≡ get_or l.initial.ends k 0;
}
