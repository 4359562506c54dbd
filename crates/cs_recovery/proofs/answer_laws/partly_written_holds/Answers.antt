use Rattle.cs_recovery.proofs.Restarts.{partly_holds, partly_expected}
use Rattle.cs_recovery.proofs.Read.{layers}
use Rattle.cs_recovery.proofs.answer_laws.partly_written_holds.Goals as goal

pub returns : goal.returns
returns c = λ C cat F G L T out h x part. (partly_holds C cat (layers C cat) F G L T h out x part, partly_expected C cat (layers C cat) F G L T h out x part)
