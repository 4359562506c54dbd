-- Rows from concatenated columns, and the width of walked rows.
use Rattle.std.proofs.Common.{◌≡◌, ℕ, ◌<◌, List, length, map, get_or, refl, sym, ◌∙◌, subst, arith, true, false, Option, Some, None, Result, Ok}
use Rattle.std.specs.Prelude.{IfOk, IfSome}
use Rattle.std.specs.List.{AllZip, range_with_len}
use Rattle.std.specs.Option.{is_some, unwrap_or}
use Rattle.std.specs.declared.alloc.AllocError.{AllocError}
use Rattle.std.proofs.lemmas.Bool.{both_ways}
use Rattle.cs_schema.specs.declared.cells.Cells.{Cells}
use Rattle.cs_schema.specs.CatalogData.{CatalogData}
use Rattle.cs_schema.specs.Rows.{Row}
use Rattle.cs_rows.specs.Columns.{ColumnsFit}
use Rattle.cs_rows.specs.RowSteps.{AreRows}
use Rattle.cs_rows.specs.TableView.{over}
use Rattle.cs_rows.proofs.Collected.{each_made}
use Rattle.cs_rows.proofs.TableLemmas as table
use Rattle.cs_rebuild.specs.Walking.{IsColumnOf}

-- ---- columns, one by one

module _ (C : CatalogData) (rows : List Row) (borrowed : List (Option Cells)) where
  -- the borrowed column, or else the owned one, has the cells of the rows
  abbrev pub IsColumn : ℕ → Cells → Type 0
  IsColumn c cells = IsColumnOf C rows c (unwrap_or (get_or borrowed c None) cells)

  abbrev pub IsJoined : ℕ → Result Cells AllocError → Type 0
  IsJoined c r = IfOk r (IsColumn c)

  module _ (columns : List Cells) (joined : AllZip IsJoined (range_with_len 0 (length C.columns)) (map Ok columns)) where
    long : length columns ≡ length C.columns
    long = (each_made AllocError IsColumn (length C.columns) columns joined).0

    each : (k : ℕ) (d : Cells) → k < length C.columns → IsColumnOf C rows k (get_or (over columns borrowed) k d)
    each k d l =
        subst (IsColumnOf C rows k) (sym (table.each columns borrowed k d (omega (arith, l, long))))
        ((each_made AllocError IsColumn (length C.columns) columns joined).1 k d l)

    pub joined_fit : ColumnsFit C (over columns borrowed)
    joined_fit = record { count = table.count columns borrowed ∙ long; kinds = λ c d l. (each c d l).0 }

    pub joined_rows : AreRows C rows (over columns borrowed)
    joined_rows c d l = (each c d l).1

  -- a borrowed column, and one that is not borrowed
  pub borrowed_there : (c : ℕ) (x : Cells) (o : Option Cells) → is_some o ≡ true → IfSome o (IsColumnOf C rows c) → IsColumnOf C rows c (unwrap_or o x)
  borrowed_there c x None e h = absurd (both_ways true (sym e) refl)
  borrowed_there c x (Some b) e h = h

  pub owned_there : (c : ℕ) (x : Cells) (o : Option Cells) → is_some o ≡ false → IsColumnOf C rows c x → IsColumnOf C rows c (unwrap_or o x)
  owned_there c x None e h = h
  owned_there c x (Some b) e h = absurd (both_ways true e refl)
