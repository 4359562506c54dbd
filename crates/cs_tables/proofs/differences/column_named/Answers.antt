use Rattle.std.proofs.Common.{sym, ◌∙◌}
use Rattle.cs_tables.proofs.NameLemmas.{none_among}
use Rattle.cs_tables.proofs.differences.column_named.Goals as goal

pub unreachable-requires : goal.unreachable-requires
unreachable-requires c = none_among c.args.columns.now c.args.name.now (sym c.find_column.ensures ∙ c.in-None.is) c.requires
