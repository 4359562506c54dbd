use Rattle.cs_recovery.proofs.Read.{layers}
use Rattle.cs_recovery.proofs.TableClauses.{table_clauses}
use Rattle.cs_recovery.proofs.building_laws.table_answers_suffice.Goals as goal

pub returns : goal.returns
returns c = λ C cat F L loss r a. table_clauses C cat (layers C cat) F L loss r a
