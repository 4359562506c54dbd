-- The rows of concatenated pieces, and those of them that are not marked.
use Rattle.std.proofs.Common.{◌≡◌, ℕ, suc, ◌+◌, ◌<◌, ◌≤◌, List, [], ◌∷◌, ◌++◌, length, map, take, drop, get_or, sym, ap, ◌∙◌, arith, Bool, Result, Ok, append_assoc, length-append, length-drop, drop-cons}
use Rattle.std.specs.Prelude.{All, IfOk}
use Rattle.std.specs.List.{AllZip, flat_map, range_with_len}
use Rattle.std.specs.declared.alloc.AllocError.{AllocError}
use Rattle.std.proofs.Math.ListN.{drop_of_length-le}
use Rattle.std.proofs.lemmas.List.{append-nil, length-map}
use Rattle.std.proofs.lemmas.List.Elements.{All-nil, All-append}
use Rattle.cs_schema.specs.CatalogData.{CatalogData, ColumnData}
use Rattle.cs_schema.specs.declared.cells.Cells.{Cells}
use Rattle.cs_schema.specs.declared.cells.Value.{Value}
use Rattle.cs_schema.specs.Rows.{Row}
use Rattle.cs_rows.specs.Columns.{ColumnsFit, IsColumn}
use Rattle.cs_rows.specs.Repeats.{unmarked}
use Rattle.cs_rows.specs.RowSteps.{AreRows}
use Rattle.cs_rows.specs.WalkedView.{WalkedData, IsWide}
use Rattle.cs_rows.proofs.Collected.{each_made}
use Rattle.cs_rows.proofs.KeptCells.{unmarked_map, unmarked_none, unmarked_split}
use Rattle.cs_rows.proofs.RangeLemmas.{map_append}

abbrev pub piece_rows : List WalkedData → List Row
piece_rows = flat_map (λ (piece : WalkedData). piece.rows)

-- ---- the unmarked rows, piece by piece

module _ (pieces : List WalkedData) (i : ℕ) (piece : WalkedData) (there : i < length pieces) (is : piece ≡ get_or pieces i piece) where
  abbrev later : List Row
  later = piece_rows (drop (i + 1) pieces)

  from_piece : piece_rows (drop i pieces) ≡ piece.rows ++ later
  from_piece =
      let next : suc i ≡ i + 1 = omega arith in
      ap piece_rows (drop-cons pieces i piece there) ∙ (λ j. (sym is j).rows ++ piece_rows (drop (next j) pieces))

  module _ (marks : List Bool) (long : length marks ≡ length (piece_rows (drop i pieces))) where
    total : length marks ≡ length piece.rows + length later
    total = long ∙ ap length from_piece ∙ length-append piece.rows later

    pub piece_fits : length piece.rows ≤ length marks
    piece_fits = omega (arith, total)

    pub later_fits : (n : ℕ) → n ≡ length piece.rows → length (drop n marks) ≡ length later
    later_fits n e = let l = length-drop n marks in omega (arith, l, total, e)

    -- a piece's unmarked cells come after those of the pieces before it
    pub left_more : (f : Row → Value) (before after whole : List Value) (n : ℕ) → n ≡ length piece.rows → after ≡ before ++ unmarked (take n marks) (map f piece.rows)
        → before ++ map f (unmarked marks (piece_rows (drop i pieces))) ≡ whole → after ++ map f (unmarked (drop n marks) later) ≡ whole
    left_more f before after whole n e pushed so_far =
        let back : List Row = unmarked (drop n marks) later in
        let split : unmarked marks (piece.rows ++ later) ≡ unmarked (take n marks) piece.rows ++ back =
        unmarked_split marks piece.rows later piece_fits ∙ ap (λ (m : ℕ). unmarked (take m marks) piece.rows ++ unmarked (drop m marks) later) (sym e) in
        ap (λ (l : List Value). l ++ map f back) pushed
        ∙ append_assoc before (unmarked (take n marks) (map f piece.rows)) (map f back)
        ∙ ap (λ (l : List Value). before ++ l)
        (ap (λ (l : List Value). l ++ map f back) (unmarked_map f (take n marks) piece.rows)
        ∙ sym (map_append f (unmarked (take n marks) piece.rows) back)
        ∙ ap (map f) (sym (ap (unmarked marks) from_piece ∙ split)))
        ∙ so_far

-- no piece is left
pub none_left : (pieces : List WalkedData) (i : ℕ) (marks : List Bool) (f : Row → Value) (before whole : List Value) → length pieces ≤ i
    → before ++ map f (unmarked marks (piece_rows (drop i pieces))) ≡ whole → before ≡ whole
none_left pieces i marks f before whole past so_far =
    sym (append-nil before)
    ∙ ap (λ (l : List Value). before ++ l) (sym (ap (λ (ps : List WalkedData). map f (unmarked marks (piece_rows ps))) (drop_of_length-le pieces past) ∙ ap (map f) (unmarked_none marks)))
    ∙ so_far

-- ---- columns, one by one

-- a column of the rows, if it was made
abbrev pub IsMade : CatalogData → List Row → ℕ → Result Cells AllocError → Type 0
IsMade C rows c r = IfOk r (IsColumn C rows c)

module _ (C : CatalogData) (rows : List Row) (columns : List Cells) (made : AllZip (IsMade C rows) (range_with_len 0 (length C.columns)) (map Ok columns)) where
  each : (length columns ≡ length C.columns) × ((c : ℕ) (d : Cells) → c < length C.columns → IsColumn C rows c (get_or columns c d))
  each = each_made AllocError (IsColumn C rows) (length C.columns) columns made

  pub made_fit : ColumnsFit C columns
  made_fit = record { count = each.0; kinds = λ c d l. (each.1 c d l).kind }

  pub made_rows : AreRows C rows columns
  made_rows c d l = (each.1 c d l).cells

-- ---- the width of rows

-- each row of pieces with the table's columns has a cell in each column
pub pieces_wide : (C : CatalogData) (pieces : List WalkedData) → All (λ (piece : WalkedData). piece.kinds ≡ map (λ (c : ColumnData). c.kind) C.columns) pieces → All IsWide pieces
    → All (λ (row : Row). length row ≡ length C.columns) (piece_rows pieces)
pieces_wide C [] kinds wide = All-nil (λ (row : Row). length row ≡ length C.columns)
pieces_wide C (x ∷ xs) kinds wide =
    All-append (λ (row : Row). length row ≡ length C.columns) x.rows (piece_rows xs)
    (λ k d l. wide 0 x (omega arith) k d l ∙ ap length (kinds 0 x (omega arith)) ∙ length-map C.columns (λ (c : ColumnData). c.kind))
    (pieces_wide C xs (λ k d l. kinds (suc k) d (omega arith)) (λ k d l. wide (suc k) d (omega arith)))
