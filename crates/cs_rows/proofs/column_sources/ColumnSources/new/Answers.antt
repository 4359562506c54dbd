use Rattle.std.proofs.Common.{sym, arith, true≢false}
use Rattle.cs_rows.proofs.SourceLemmas.{none_given}
use Rattle.cs_rows.proofs.column_sources.ColumnSources.new.Goals as goal

pub returns : goal.returns
returns c fresh_only C e = record {
  count = omega (arith, e);
  given = none_given fresh_only C _ c.in_ok-with_capacity.ensures.items (omega (arith, e));
  each = λ h. absurd (true≢false (sym h));
}
