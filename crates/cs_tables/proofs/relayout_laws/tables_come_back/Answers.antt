use Rattle.cs_tables.proofs.BackLemmas.{rows_back}
use Rattle.cs_tables.proofs.DifferenceLemmas.{alike}
use Rattle.cs_tables.proofs.RowLemmas.{by_name-table}
use Rattle.cs_tables.proofs.relayout_laws.tables_come_back.Goals as goal

pub returns : goal.returns
returns c = λ old new old-rules new-rules e T is. record {
  table = by_name-table old new (alike old new old-rules new-rules e) T is;
  back = rows_back old new old-rules new-rules e T is.rows;
}
