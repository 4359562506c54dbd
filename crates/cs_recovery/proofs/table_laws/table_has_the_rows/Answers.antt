use Rattle.cs_recovery.proofs.TableFacts.{has_the_rows}
use Rattle.cs_recovery.proofs.table_laws.table_has_the_rows.Goals as goal

pub returns : goal.returns
returns c = has_the_rows
