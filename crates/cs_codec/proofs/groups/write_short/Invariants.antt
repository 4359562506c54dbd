use Rattle.std.proofs.Common.{◌≡◌, ◌++◌, ◌<◌, ℕ}
use Rattle.cs_codec.specs.Texts.{short, groups}
use Rattle.cs_codec.specs.Differences.{group_limit}
use Rattle.cs_codec.proofs.groups.write_short.Given as goal

abbrev pub invariant-loop-rest : goal.invariant-loop-rest
invariant-loop-rest l = (more : ℕ) × (l.rest < group_limit more) × (l.out.items ++ groups more l.rest ≡ l.fn.out.items ++ short l.n)

abbrev pub decreases-loop-rest : goal.decreases-loop-rest
decreases-loop-rest l = l.rest
