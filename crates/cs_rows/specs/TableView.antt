-- The columns of a table, owned or borrowed.
use Rattle.std.specs.Prelude.{List, [], ◌∷◌, Option}
use Rattle.std.specs.Option.{unwrap_or}
use Rattle.cs_schema.specs.declared.cells.Cells.{Cells}
use Rattle.cs_rows.specs.declared.table.Table.TheInside.{Inside}

-- the columns, from the first on, each replaced by the borrowed one if there is one
unfoldable pub over : List Cells → List (Option Cells) → List Cells
over [] borrowed = []
over (column ∷ columns) [] = column ∷ columns
over (column ∷ columns) (other ∷ borrowed) = unwrap_or other column ∷ over columns borrowed

abbrev pub all_columns : Inside → List Cells
all_columns t = over t.owned.items t.borrowed
