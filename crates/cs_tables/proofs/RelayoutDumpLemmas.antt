-- The text of a table, loaded again.
use Rattle.std.proofs.Common.{◌≡◌, ◌≢◌, ℕ, ◌<◌, List, [], ◌∷◌, length, map, get_or, true, ◌&&◌, refl, sym, ap, subst, ◌∙◌, arith, nat_le}
use Rattle.std.specs.Prelude.{slice_index}
use Rattle.std.specs.List.{list_all}
use Rattle.std.proofs.lemmas.Bool.{and_parts, leb-true}
use Rattle.std.proofs.lemmas.List.{get_or-map, length-map}
use Rattle.std.proofs.lemmas.Option.{slice_get-get_or}
use Rattle.cs_schema.specs.CatalogData.{CatalogData, ColumnData}
use Rattle.cs_schema.specs.CatalogRules.{IsCatalog}
use Rattle.cs_schema.specs.Lists.{numbers_below}
use Rattle.cs_schema.specs.Rows.{Row, IsTable, cell}
use Rattle.cs_schema.specs.Rules.{are_distinct, is_lowercase, is_name, is_name_byte}
use Rattle.cs_schema.specs.Values.{IsOfKind, values}
use Rattle.cs_schema.specs.declared.cells.Cells.{Cells}
use Rattle.cs_schema.specs.declared.cells.Value.{Value}
use Rattle.cs_schema.proofs.Lists.{in_at}
use Rattle.cs_rows.specs.WalkedView.{count_of, row_of, rows_of}
use Rattle.cs_recovery.specs.Columns.{AreColumnsOf, rows_in}
use Rattle.cs_csv.specs.Columns.{column}
use Rattle.cs_csv.specs.Faults.{cells_at}
use Rattle.cs_csv.specs.RoundTrip.{CellsFit, HasNoMark}
use Rattle.cs_csv.specs.Writing.{row_count, value_at}
use Rattle.cs_csv.proofs.RecordLemmas.{cells_at-is}

-- ---- columns with the same cells have the same rows

row-same : (a b : List Cells) → map values a ≡ map values b → (i : ℕ) → row_of a i ≡ row_of b i
row-same [] [] e i = refl
row-same [] (y ∷ b) e i = absurd (cc e)
row-same (x ∷ a) [] e i = absurd (cc e)
row-same (x ∷ a) (y ∷ b) e i =
    let head : values x ≡ values y = cc e in
    let tail : map values a ≡ map values b = cc e in
    let rest = row-same a b tail i in
    rw (head, rest) refl

all-same : (f g : ℕ → Row) → ((n : ℕ) → f n ≡ g n) → (ks : List ℕ) → map f ks ≡ map g ks
all-same f g h [] = refl
all-same f g h (k ∷ ks) = rw (h k, all-same f g h ks) refl

count-same : (a b : List Cells) → map values a ≡ map values b → count_of a ≡ count_of b
count-same [] [] e = refl
count-same [] (y ∷ b) e = absurd (cc e)
count-same (x ∷ a) [] e = absurd (cc e)
count-same (x ∷ a) (y ∷ b) e =
    let head : values x ≡ values y = cc e in
    ap length head

pub rows-same : (a b : List Cells) → map values a ≡ map values b → rows_in a ≡ rows_in b
rows-same a b e = all-same (row_of a) (row_of b) (row-same a b e) (numbers_below (count_of a)) ∙ ap (rows_of b) (count-same a b e)

-- ---- the cells of a table are of its columns' kinds

module _ (C : CatalogData) (cat : IsCatalog C) (T : List Row) (t : IsTable C T) where
  pub cells-fit : (columns : List Cells) → AreColumnsOf C T columns → CellsFit C.columns columns
  cells-fit [] are = absurd (omega (arith, are.count, cat.column_range.0))
  cells-fit (x ∷ xs) are =
      let some : 0 < length C.columns = cat.column_range.0 in
      let at = λ (c : ℕ) (l : c < length C.columns). cells_at-is (x ∷ xs) c x (omega (arith, are.count)) ∙ are.cells c x l in
      let rows : row_count (x ∷ xs) ≡ length T = ap length (at 0 some) ∙ length-map T (λ (row : Row). cell row 0) in
      record {
        some = some;
        count = are.count;
        kinds = λ c n lc ln.
            let low : n < length T = omega (arith, rows) in
            let value : value_at (cells_at (x ∷ xs) c) n ≡ cell (get_or T n []) c = ap (λ (v : List Value). value_at v n) (at c lc) ∙ get_or-map (λ (row : Row). cell row c) T n [] (Value.Text []) low in
            subst (IsOfKind (column C.columns c).kind) (sym value) ((t.rows (get_or T n []) (in_at T n (get_or T n []) (slice_get-get_or T n [] low))).1 c lc);
      }

-- ---- no name begins with a byte order mark

first_byte : (name : List ℕ) → is_name name ≡ true → slice_index name 0 ≢ 0xEF
first_byte [] h e = absurd (omega (arith, e))
first_byte (b ∷ bs) h e =
    let lower = (and_parts (is_lowercase b) (list_all is_name_byte bs) (and_parts (is_lowercase b && list_all is_name_byte bs) _ h).0).0 in
    let high : nat_le b 122 ≡ true = (and_parts (nat_le 97 b) (nat_le b 122) lower).1 in
    let bound = leb-true b 122 high in
    absurd (omega (arith, bound, e))

first_named : (columns : List ColumnData) → list_all is_name (map (λ c. c.name) columns) ≡ true → HasNoMark columns
first_named [] h e = absurd (omega (arith, e))
first_named (c ∷ columns) h e = first_byte c.name (and_parts (is_name c.name) (list_all is_name (map (λ x. x.name) columns)) h).0 e

pub no_mark : (C : CatalogData) → IsCatalog C → HasNoMark C.columns
no_mark C cat = first_named C.columns (and_parts (list_all is_name (map (λ c. c.name) C.columns)) (are_distinct (map (λ c. c.name) C.columns)) cat.column_names).0
