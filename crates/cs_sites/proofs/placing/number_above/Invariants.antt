use Rattle.std.proofs.Common.{◌≡◌, nat_le, drop}
use Rattle.std.specs.List.{list_all}
use Rattle.cs_sites.proofs.placing.number_above.Given as goal

abbrev pub invariant-loop-entry : goal.invariant-loop-entry
invariant-loop-entry l = list_all (λ e. nat_le e.number l.sites) l.found ≡ list_all (λ e. nat_le e.number l.sites) (drop l.entry-index l.found)
