use Rattle.std.proofs.Common.{ℕ, ◌<◌, ◌≤◌}
use Rattle.std.specs.Prelude.{IsTrue}
use Rattle.cs_schema.specs.Lists.{member}
use Rattle.cs_schema.specs.Losses.{IsSites}
use Rattle.cs_design.proofs.within.is_within.Given as goal

abbrev pub invariant-loop-site : goal.invariant-loop-site
invariant-loop-site l = record {
  sites : 1 < l.site → IsSites l.loss;
  below : (x : ℕ) → 1 ≤ x → x < l.site → IsTrue (member l.loss x) → IsTrue (member l.other x);
}
