use Rattle.std.proofs.Common.{List, ℕ, [], subst}
use Rattle.cs_safety.specs.Safety.{IsSafe}
use Rattle.cs_checking.proofs.SafeNumbers.{fatal_already}
use Rattle.cs_checking.proofs.judging.allowed.Goals as goal

pub returns-in-None-clause-err : goal.returns-in-None-clause-err
returns-in-None-clause-err c =
    let bad : ¬ IsSafe c.args.catalog.now [] = subst (λ (L : List ℕ). ¬ IsSafe c.args.catalog.now L) c.none.ensures c.in-None.ensures in
    (c.unwrap_or.ensures, fatal_already _ _ bad)
