-- The number of rows of columns.
use Rattle.std.proofs.Common.{◌≡◌, List, length}
use Rattle.std.proofs.lemmas.List.FromFn.{length-map-range_with_len}
use Rattle.cs_schema.specs.declared.cells.Cells.{Cells}
use Rattle.cs_rows.specs.WalkedView.{row_of, count_of}
use Rattle.cs_recovery.specs.Columns.{rows_in}

pub row_total : (a : List Cells) → length (rows_in a) ≡ count_of a
row_total a = length-map-range_with_len (row_of a) 0 (count_of a)
