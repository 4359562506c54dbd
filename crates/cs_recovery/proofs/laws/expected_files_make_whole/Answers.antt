use Rattle.cs_recovery.proofs.Whole.{whole_again}
use Rattle.cs_recovery.proofs.Read.{layers}
use Rattle.cs_recovery.proofs.laws.expected_files_make_whole.Goals as goal

pub returns : goal.returns
returns c = λ C cat F L T h out x. whole_again C cat (layers C cat) F L T h out x
