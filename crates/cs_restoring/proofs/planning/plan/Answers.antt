use Rattle.cs_restoring.proofs.planning.plan.Goals as goal

pub returns-in-Ok : goal.returns-in-Ok
returns-in-Ok g c = (c.in-Ok.plan.answer, c.in-Ok.plan.changes.items, c.in-Ok.ensures.plan)
