use Rattle.std.proofs.Common.{◌<◌, ℕ, List, length, subst, sym}
use Rattle.std.specs.Prelude.{slice_index}
use Rattle.cs_rebuild.proofs.CellsAlike.{column_exists}
use Rattle.cs_rebuild.proofs.columns.table_column.Goals as goal

pub returns-clause-exists : goal.returns-clause-exists
returns-clause-exists c =
    subst (λ (columns : List ℕ). slice_index columns c.args.j < length c.args.catalog.now.columns) (sym c.columns_of.ensures.columns)
    (column_exists c.args.catalog.now c.columns_of.ensures.rules c.args.p c.args.j c.requires.projection c.requires.column)
