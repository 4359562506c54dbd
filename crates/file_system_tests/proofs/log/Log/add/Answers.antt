use Rattle.file_system_tests.proofs.HistoryLemmas.{adds_event}
use Rattle.file_system_tests.proofs.log.Log.add.Goals as goal

pub returns-clause-ok : goal.returns-clause-ok
returns-clause-ok c = adds_event _ _ _ _ c.in_ok-push.ensures.items c.in_ok-event.ensures
