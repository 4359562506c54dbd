use Rattle.std.proofs.Common.{◌≡◌, drop}
use Rattle.cs_sites.specs.Placing.{folder_at}
use Rattle.cs_sites.proofs.placing.folder_at.Given as goal

abbrev pub invariant-loop-entry : goal.invariant-loop-entry
invariant-loop-entry l = folder_at l.found l.site ≡ folder_at (drop l.entry-index l.found) l.site
