-- The text of a table is said by its cells alone.
use Rattle.std.proofs.Common.{◌≡◌, ℕ, ◌<◌, List, [], ◌∷◌, length, map, get_or, refl, sym, ap, ◌∙◌, arith}
use Rattle.std.specs.List.{range_with_len}
use Rattle.std.proofs.lemmas.List.{get_or-map, length-map, same_lists}
use Rattle.cs_schema.specs.CatalogData.{CatalogData, ColumnData}
use Rattle.cs_schema.specs.Rows.{Row, cell}
use Rattle.cs_schema.specs.Values.{values}
use Rattle.cs_schema.specs.declared.cells.Cells.{Cells}
use Rattle.cs_schema.specs.declared.cells.Value.{Value}
use Rattle.cs_recovery.specs.Columns.{AreColumnsOf}
use Rattle.cs_csv.specs.Fields.{Record}
use Rattle.cs_csv.specs.Writing.{names_record, records_text, row_count, row_record, rows_records, table_text}

row-same : (a b : List Cells) → map values a ≡ map values b → (n : ℕ) → row_record a n ≡ row_record b n
row-same [] [] e n = refl
row-same [] (y ∷ b) e n = absurd (cc e)
row-same (x ∷ a) [] e n = absurd (cc e)
row-same (x ∷ a) (y ∷ b) e n =
    let head : values x ≡ values y = cc e in
    let tail : map values a ≡ map values b = cc e in
    let rest = row-same a b tail n in
    rw (head, rest) refl

all-same : (f g : ℕ → Record) → ((n : ℕ) → f n ≡ g n) → (ks : List ℕ) → map f ks ≡ map g ks
all-same f g h [] = refl
all-same f g h (k ∷ ks) = rw (h k, all-same f g h ks) refl

text-same : (columns : List ColumnData) (a b : List Cells) → map values a ≡ map values b → table_text columns a ≡ table_text columns b
text-same columns a b e =
    let count : row_count a ≡ row_count b = ap (λ (v : List (List Value)). length (get_or v 0 [])) e in
    let rows : rows_records a (row_count a) ≡ rows_records b (row_count a) = all-same (row_record a) (row_record b) (row-same a b e) (range_with_len 0 (row_count a)) in
    ap (λ (r : List Record). records_text (names_record columns ∷ r)) (rows ∙ ap (rows_records b) count)

cells-same : (C : CatalogData) (T : List Row) (a b : List Cells) → AreColumnsOf C T a → AreColumnsOf C T b → map values a ≡ map values b
cells-same C T a b p q =
    let count : length (map values a) ≡ length (map values b) = length-map a _ ∙ p.count ∙ sym q.count ∙ sym (length-map b _) in
    same_lists _ _ count (λ c d low. cell-column c d (omega (arith, length-map a values, p.count)))
  where
    column-is : (columns : List Cells) → AreColumnsOf C T columns → (c : ℕ) (d : List Value) → c < length C.columns → get_or (map values columns) c d ≡ map (λ row. cell row c) T
    column-is [] h c d l = absurd (omega (arith, h.count))
    column-is (x ∷ xs) h c d l = get_or-map values (x ∷ xs) c x d (omega (arith, h.count)) ∙ h.cells c x l

    cell-column : (c : ℕ) (d : List Value) → c < length C.columns → get_or (map values a) c d ≡ get_or (map values b) c d
    cell-column c d l = column-is a p c d l ∙ sym (column-is b q c d l)

-- columns of one table have one text
pub one-text : (C : CatalogData) (T : List Row) (a b : List Cells) → AreColumnsOf C T a → AreColumnsOf C T b → table_text C.columns a ≡ table_text C.columns b
one-text C T a b p q = text-same C.columns a b (cells-same C T a b p q)
