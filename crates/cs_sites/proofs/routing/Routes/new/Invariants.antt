use Rattle.std.proofs.Common.{◌≡◌, map, take}
use Rattle.cs_sites.proofs.routing.Routes.new.Given as goal

abbrev pub invariant-loop-p : goal.invariant-loop-p
invariant-loop-p l = map (λ sites. sites.items) l.projections.items ≡ map (λ q. q.sites) (take l.p l.catalog.projections)
