use Rattle.cs_recovery.proofs.Built.{build_clauses}
use Rattle.cs_recovery.proofs.Read.{layers}
use Rattle.cs_recovery.proofs.building_laws.build_answers_suffice.Goals as goal

pub returns : goal.returns
returns c = λ C cat rows are r a. build_clauses C cat (layers C cat) rows are r a
