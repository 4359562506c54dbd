use Rattle.pinepolo_run.proofs.LowStatuses.{said_low, stopped_low}
use Rattle.pinepolo_run.proofs.program.run.Goals as goal

pub returns-in-Ok-done-clause-status : goal.returns-in-Ok-done-clause-status
returns-in-Ok-done-clause-status g c = said_low c.in-Ok-done.answer c.say_answer.result c.say_answer.ensures

pub returns-in-Err-done-clause-status : goal.returns-in-Err-done-clause-status
returns-in-Err-done-clause-status g c = stopped_low c.in-Err-done.error c.say_error.result c.say_error.ensures
