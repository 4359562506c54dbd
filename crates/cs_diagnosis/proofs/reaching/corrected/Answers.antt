use Rattle.std.proofs.Common.{List, ℕ, ◌+◌, subst, arith}
use Rattle.cs_safety.specs.Safety.{IsSafe}
use Rattle.cs_design.specs.Fatal.{IsSafeBeyond, IsFatalAt}
use Rattle.cs_diagnosis.proofs.Corrected.{corrected, greatest, none_above, none_unsafe, k_safe, some_may_not_fail}
use Rattle.cs_diagnosis.proofs.reaching.corrected.Goals as goal

pub returns-then-forced-k-clause-greatest : goal.returns-then-forced-k-clause-greatest
returns-then-forced-k-clause-greatest c =
    let C = c.args.catalog.now in
    let safe = subst (λ (L : List ℕ). IsSafeBeyond C L c.in-Some.k) c.none.ensures c.in-Some.ensures.0 in
    let fatal = subst (λ (L : List ℕ). IsFatalAt C L (c.in-Some.k + 1)) c.none.ensures c.in-Some.ensures.1 in
    (corrected C c.in-Some.k c.args.forced safe fatal c.if-forced-k.true, greatest C c.in-Some.k c.args.forced safe fatal)

pub returns-else-forced-k-clause-greatest : goal.returns-else-forced-k-clause-greatest
returns-else-forced-k-clause-greatest c =
    let C = c.args.catalog.now in
    let safe = subst (λ (L : List ℕ). IsSafeBeyond C L c.in-Some.k) c.none.ensures c.in-Some.ensures.0 in
    let fatal = subst (λ (L : List ℕ). IsFatalAt C L (c.in-Some.k + 1)) c.none.ensures c.in-Some.ensures.1 in
    none_above C c.in-Some.k c.args.forced safe fatal c.if-forced-k.false

pub returns-in-None-clause-greatest : goal.returns-in-None-clause-greatest
returns-in-None-clause-greatest c =
    let C = c.args.catalog.now in
    none_unsafe C c.args.forced (subst (λ (L : List ℕ). ¬ IsSafe C L) c.none.ensures c.in-None.ensures)

pub returns-then-forced-k-clause-few : goal.returns-then-forced-k-clause-few
returns-then-forced-k-clause-few c =
    let C = c.args.catalog.now in
    let rules = c.projection_count-rules.ensures.rules in
    let safe = subst (λ (L : List ℕ). IsSafeBeyond C L c.in-Some.k) c.none.ensures c.in-Some.ensures.0 in
    let low = some_may_not_fail C rules c.in-Some.k (k_safe C c.in-Some.k safe) in
    omega (arith, low, rules.site_range.1, c.if-forced-k.true)
