use Rattle.std.proofs.Common.{◌≡◌, ◌==◌, drop}
use Rattle.std.specs.List.{list_any}
use Rattle.cs_sites.proofs.entries.repeated.Given as goal

abbrev pub invariant-loop-entry : goal.invariant-loop-entry
invariant-loop-entry l = list_any (λ e. e.number == l.number) l.found ≡ list_any (λ e. e.number == l.number) (drop l.entry-index l.found)
