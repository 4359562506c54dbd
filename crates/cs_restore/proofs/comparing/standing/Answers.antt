use Rattle.cs_restore.proofs.comparing.standing.Goals as goal

pub returns-in-Some-clause-new : goal.returns-in-Some-clause-new
returns-in-Some-clause-new c is = absurd (c.what_of.ensures.stands is)
