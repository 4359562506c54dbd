use Rattle.std.proofs.Common.{sym, subst, ◌∙◌}
use Rattle.std.proofs.lemmas.Option.{same_Some}
use Rattle.cs_diagnosis.specs.Conflicts.{AreAllHit}
use Rattle.cs_diagnosis.specs.declared.conflicts.Conflicts.{Conflicts}
use Rattle.cs_diagnosis.proofs.walks.is_hit.Goals as goal

pub returns-in-Some : goal.returns-in-Some
returns-in-Some c = (
  λ hit. (c.in-Some.conflicts, c.in-Some.is, c.are_hit.ensures.0 hit),
  λ found. c.are_hit.ensures.1 (subst (λ (k : Conflicts). AreAllHit k c.args.loss) (same_Some found.0 c.in-Some.conflicts (sym found.1 ∙ c.in-Some.is)) found.2),
)
