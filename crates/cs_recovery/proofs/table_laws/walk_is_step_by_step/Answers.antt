use Rattle.cs_recovery.proofs.TableFacts.{step_by_step}
use Rattle.cs_recovery.proofs.table_laws.walk_is_step_by_step.Goals as goal

pub returns : goal.returns
returns c = step_by_step
