use Rattle.std.proofs.Common.{None, Some}
use Rattle.std.proofs.lemmas.Result.{IfOk-weaker}
use Rattle.pinepolo_answers.proofs.diagnosed.fatal_beside.Goals as goal

pub returns-in-Some : goal.returns-in-Some
returns-in-Some c = IfOk-weaker c.fatal_losses.result _ _ (λ fatal h. (Some c.in-Some.loss, c.in-Some.ensures, h)) c.fatal_losses.ensures

pub returns-in-None : goal.returns-in-None
returns-in-None c = (None, c.in-None.ensures, c.new.ensures.items)
