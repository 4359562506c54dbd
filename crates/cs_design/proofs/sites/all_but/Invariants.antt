use Rattle.std.proofs.Common.{◌≡◌, ℕ, ◌<◌, ◌≤◌, ◌==◌, not, false}
use Rattle.cs_schema.specs.Lists.{member}
use Rattle.cs_design.proofs.sites.all_but.Given as goal

abbrev pub invariant-loop-other : goal.invariant-loop-other
invariant-loop-other l = record {
  below : (x : ℕ) → 1 ≤ x → x < l.other → member l.loss x ≡ not (x == l.site);
  empty_above : (x : ℕ) → l.other ≤ x → member l.loss x ≡ false;
}
