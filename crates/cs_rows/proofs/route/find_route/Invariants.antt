use Rattle.cs_rows.proofs.RouteLemmas.{IsRound}
use Rattle.cs_rows.proofs.route.find_route.Given as goal

abbrev pub invariant-loop-round : goal.invariant-loop-round
invariant-loop-round l = IsRound l.catalog l.plan l.route.items l._round 0

abbrev pub invariant-loop-q : goal.invariant-loop-q
invariant-loop-q l = IsRound l.catalog l.plan l.route.items l._round l.q
