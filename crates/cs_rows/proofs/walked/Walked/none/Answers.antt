use Rattle.std.proofs.Common.{◌≡◌, length, [], ap, ◌∙◌}
use Rattle.std.proofs.lemmas.List.Elements.{All-nil}
use Rattle.cs_schema.specs.Rows.{Row}
use Rattle.cs_rows.specs.WalkedView.{WalkedData}
use Rattle.cs_rows.proofs.FoundRows.{columns_of_rows, rows_in, kinds_fit}
use Rattle.cs_rows.proofs.walked.Walked.none.Goals as goal

pub from_columns-requires : goal.from_columns-requires
from_columns-requires c = columns_of_rows c.args.catalog.now c.in_ok-columns.columns.items [] c.in_ok-columns.ensures.fit c.in_ok-columns.ensures.none c.in_ok-columns.ensures.rules.column_range.0

pub returns-clause-kinds : goal.returns-clause-kinds
returns-clause-kinds c = ap (λ (w : WalkedData). w.kinds) c.from_columns.ensures ∙ kinds_fit c.args.catalog.now c.in_ok-columns.columns.items c.in_ok-columns.ensures.fit

pub returns-clause-rows : goal.returns-clause-rows
returns-clause-rows c =
    ap (λ (w : WalkedData). w.rows) c.from_columns.ensures
    ∙ rows_in c.args.catalog.now c.in_ok-columns.columns.items [] c.in_ok-columns.ensures.fit c.in_ok-columns.ensures.none (All-nil (λ (r : Row). length r ≡ length c.args.catalog.now.columns)) c.in_ok-columns.ensures.rules.column_range.0
