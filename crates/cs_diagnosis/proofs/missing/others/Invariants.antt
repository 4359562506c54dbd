use Rattle.std.proofs.Common.{◌≡◌, ◌≤◌, ◌<◌, ℕ, not, false}
use Rattle.cs_schema.specs.Lists.{member}
use Rattle.cs_diagnosis.proofs.missing.others.Given as goal

abbrev pub invariant-loop-site : goal.invariant-loop-site
invariant-loop-site l = record {
  below : (x : ℕ) → 1 ≤ x → x < l.site → member l.others x ≡ not (member l.loss x);
  above : (x : ℕ) → l.site ≤ x → member l.others x ≡ false;
}
