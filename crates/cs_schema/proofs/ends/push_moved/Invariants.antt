use Rattle.std.proofs.Common.{◌≡◌, ◌+◌, ◌-◌, ◌++◌, take, drop, map}
use Rattle.cs_schema.proofs.ends.push_moved.Given as goal

abbrev pub invariant-loop-at : goal.invariant-loop-at
invariant-loop-at l = l.ends ≡ l.initial.ends ++ map (λ e. e - l.shift.less + l.shift.more) (take (l.at - l.from) (drop l.from l.other))
