use Rattle.cs_verifying.proofs.OtherSites.{OthersBelow}
use Rattle.cs_verifying.proofs.one_site.all_but.Given as goal

abbrev pub invariant-loop-other : goal.invariant-loop-other
invariant-loop-other l = OthersBelow l.lost l.site l.other
