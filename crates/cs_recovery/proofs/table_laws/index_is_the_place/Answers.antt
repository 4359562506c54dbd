use Rattle.cs_recovery.proofs.TableFacts.{index_is_place}
use Rattle.cs_recovery.proofs.table_laws.index_is_the_place.Goals as goal

pub returns : goal.returns
returns c = index_is_place
