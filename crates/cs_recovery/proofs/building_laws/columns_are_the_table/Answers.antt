use Rattle.cs_recovery.proofs.ColumnRows.{are_the_table}
use Rattle.cs_recovery.proofs.building_laws.columns_are_the_table.Goals as goal

pub returns : goal.returns
returns c = λ C cat T t columns are. are_the_table C cat T t columns are
