use Rattle.std.proofs.Common.{◌≡◌, length}
use Rattle.cs_rows.proofs.column_sources.ColumnSources.new.Given as goal

abbrev pub invariant-loop-column : goal.invariant-loop-column
invariant-loop-column l = length l.sources.items ≡ l._column
