-- The text of a table reads as the table.
use Rattle.std.proofs.Common.{◌≡◌, ◌≢◌, ℕ, zero, suc, ◌<◌, List, [], ◌∷◌, ◌++◌, length, map, refl, sym, ap, ◌∙◌, subst, arith, false, Some, append_assoc, inl, inr, zero-add}
use Rattle.std.specs.Prelude.{slice_index, ⊤}
use Rattle.std.specs.List.{list_any}
use Rattle.std.proofs.lemmas.Bool.{cases_Bool, ne_eqb}
use Rattle.std.proofs.lemmas.List.{get_or-map, append_cancel_right, get_or_default, length-append, length-map, same_lists}
use Rattle.std.proofs.lemmas.Option.{same_Some}
use Rattle.std.proofs.lemmas.Bool.{false≢true}
use Rattle.std.proofs.lemmas.List.FromFn.{get_or-map-range_with_len, length-map-range_with_len}
use Rattle.csv.specs.Machine.{Read, next_record}
use Rattle.csv.specs.Reading.{default_config, strip_bom}
use Rattle.csv.specs.Writing.{default_writer, fields_text, is_blank, needs_byte, read_back, row_text}
use Rattle.csv.specs.declared.parser.State.TheVariants as st
use Rattle.csv.proofs.RoundTrip.{read-write}
use Rattle.cs_csv.specs.Ahead.{IsAhead, mark}
use Rattle.cs_csv.specs.Closed.{closed_from, with_first}
use Rattle.cs_csv.specs.Columns.{NamesDiffer, column}
use Rattle.cs_schema.specs.CatalogData.{ColumnData}
use Rattle.cs_schema.specs.Values.{values}
use Rattle.cs_csv.specs.Fields.{IsCellOf, Record, cell_of, field}
use Rattle.cs_csv.specs.Faults.{HoldsRows, IsFieldFault, IsFirstFault, IsRowFault, Refuses, cells_at, column_values, row}
use Rattle.cs_csv.specs.Headers.{IsHeader}
use Rattle.cs_csv.specs.Reading.{text_records}
use Rattle.cs_csv.specs.RoundTrip.{CellsFit, HasNoMark, IsTripFault}
use Rattle.cs_csv.specs.Writing.{AreEven, names_record, records_text, row_count, row_record, rows_records, table_records, table_text, value_at, value_text}
use Rattle.cs_schema.specs.declared.cells.Cells.{Cells}
use Rattle.cs_schema.specs.declared.kinds.Kind.{Kind}
use Rattle.cs_csv.specs.declared.fault.FieldFault.{FieldFault}
use Rattle.cs_csv.specs.declared.fault.FieldFault.TheVariants as why
use Rattle.cs_csv.specs.declared.fault.CsvFault.{CsvFault}
use Rattle.cs_csv.specs.declared.fault.CsvFault.TheVariants as fault
use Rattle.cs_csv.proofs.HeaderLemmas.{no-fault}
use Rattle.cs_csv.proofs.MarkLemmas.{ahead-from}
use Rattle.cs_csv.proofs.ValueLemmas.{not-int, not-text, too-long, value-back, value-fits}

-- ---- the records of the text

-- each record has a field
abbrev HaveFields : List Record → Type 0
HaveFields [] = ⊤
HaveFields (r ∷ rest) = (0 < length r) × HaveFields rest

have-fields : (f : ℕ → Record) (ks : List ℕ) → ((k : ℕ) → 0 < length (f k)) → HaveFields (map f ks)
have-fields f [] h = tt
have-fields f (k ∷ ks) h = (h k, have-fields f ks h)

same-back : (r : Record) → 0 < length r → read_back r ≡ r
same-back [] h = absurd (omega arith)
same-back (x ∷ rest) h = refl

-- a record that the machine reads before more text is the first closed one
first-closed : (r : Record) (more left : List ℕ) → next_record default_config st.StartRecord [] [] (more ++ mark) ≡ Some (r, st.StartRecord, left ++ mark)
    → closed_from st.StartRecord [] [] more ≡ with_first r (closed_from st.StartRecord [] [] left)
first-closed r more left e =
    let (p, same, ahead) = ahead-from st.StartRecord [] [] more (refl, refl) in
    let is : p ≡ (r, st.StartRecord, left ++ mark) = same_Some p (r, st.StartRecord, left ++ mark) (sym same ∙ e) in
    elim (subst (λ (q : Read). IsAhead q.0 q.1 q.2 (closed_from st.StartRecord [] [] more)) is ahead) [
      | inl (after, c, inl (text, l, fits, is_after)) ↦ c ∙ ap (with_first r) (is_after ∙ ap (closed_from st.StartRecord [] []) (sym (append_cancel_right left text mark l)))
      | inl (after, c, inr (s, l, is_after)) ↦ absurd (omega (arith, ap length l, length-append left mark))
      | inr (s, l, last) ↦ absurd (omega (arith, ap length l, length-append left mark))
    ]

pub records-back : (rs : List Record) → HaveFields rs → closed_from st.StartRecord [] [] (records_text rs) ≡ (rs, false)
unfolding records_text closed_from
records-back [] h = refl
records-back (r ∷ rest) h =
    let text = records_text rest in
    let next : next_record default_config st.StartRecord [] [] ((row_text default_writer r ++ text) ++ mark) ≡ Some (r, st.StartRecord, text ++ mark) =
    ap (next_record default_config st.StartRecord [] []) (append_assoc (row_text default_writer r) text mark) ∙ read-write r (text ++ mark) ∙ ap (λ (q : Record). Some (q, st.StartRecord, text ++ mark)) (same-back r h.0) in
    first-closed r (row_text default_writer r ++ text) text next ∙ ap (with_first r) (records-back rest h.1)

-- ---- no byte order mark

no-mark : (xs : List ℕ) → slice_index xs 0 ≢ 239 → strip_bom xs ≡ xs
unfolding strip_bom
no-mark [] h = refl
no-mark (a ∷ []) h = refl
no-mark (a ∷ b ∷ []) h = refl
no-mark (a ∷ b ∷ c ∷ rest) h = rw (ne_eqb a 239 h) refl

begins : (n : List ℕ) (rest : Record) (tail : List ℕ) → slice_index n 0 ≢ 239 → slice_index (row_text default_writer (n ∷ rest) ++ tail) 0 ≢ 239
unfolding fields_text is_blank
begins [] [] tail h = λ e. absurd (omega (arith, e))
begins [] (y ∷ ys) tail h = λ e. absurd (omega (arith, e))
begins (b ∷ bs) rest tail h = elim (cases_Bool (list_any (needs_byte default_writer) (b ∷ bs))) [
  | inl needs ↦ rw needs (λ e. absurd (omega (arith, e)))
  | inr plain ↦ rw plain h
]

-- ---- the rows and the columns

names-length : (columns : List ColumnData) → length (names_record columns) ≡ length columns
names-length columns = length-map columns _

row-length : (cells : List Cells) (n : ℕ) → length (row_record cells n) ≡ length cells
row-length cells n = length-map cells _

name-at : (columns : List ColumnData) (c : ℕ) → c < length columns → field (names_record columns) c ≡ (column columns c).name
name-at columns c h = get_or-map (λ (x : ColumnData). x.name) columns c _ [] h

-- a field of a row is the text of the cell
field-at : (cells : List Cells) (n c : ℕ) → c < length cells → field (row_record cells n) c ≡ value_text (value_at (cells_at cells c) n)
field-at [] n c h = absurd (omega arith)
field-at (x ∷ rest) n zero h = refl
field-at (x ∷ rest) n (suc c) h = field-at rest n c (omega arith)

row-at : (cells : List Cells) (count n : ℕ) → n < count → row (rows_records cells count) n ≡ row_record cells n
row-at cells count n h = get_or-map-range_with_len (row_record cells) 0 count n n [] h (zero-add n)

module _ (columns : List ColumnData) (cells : List Cells) (differ : NamesDiffer columns) (even : AreEven cells) (fit : CellsFit columns cells) where
  names-header : IsHeader columns (names_record columns)
  names-header = record {
    differ = differ;
    count = names-length columns;
    once = λ i j li lj e. differ i j li lj (sym (name-at columns i li) ∙ e ∙ name-at columns j lj);
    each = λ c l. (c, l, name-at columns c l);
    named = λ i l. (i, l, sym (name-at columns i l));
  }

  field-fits : (c n : ℕ) → c < length columns → n < row_count cells → IsCellOf (column columns c).kind (field (row (rows_records cells (row_count cells)) n) c)
  field-fits c n lc ln =
      let there : c < length cells = omega (arith, fit.count) in
      let P : List ℕ → Type 0 = λ t. IsCellOf (column columns c).kind t in
      rw (row-at cells (row_count cells) n ln) (subst P (sym (field-at cells n c there)) (value-fits (column columns c).kind (value_at (cells_at cells c) n) (fit.kinds c n lc ln)))

  column-back : (c : ℕ) → c < length columns → column_values (column columns c) c (rows_records cells (row_count cells)) ≡ cells_at cells c
  column-back c lc =
      let there : c < length cells = omega (arith, fit.count) in
      let rows = length-map-range_with_len (row_record cells) 0 (row_count cells) in
      let size : length (column_values (column columns c) c (rows_records cells (row_count cells))) ≡ row_count cells = length-map (rows_records cells (row_count cells)) _ ∙ rows in
      same_lists _ _ (size ∙ sym (even c there)) (λ k d low.
      let ln : k < row_count cells = omega (arith, size) in
      let lr : k < length (rows_records cells (row_count cells)) = omega (arith, rows) in
      let lv : k < length (cells_at cells c) = omega (arith, even c there) in
      get_or-map (λ (r : Record). cell_of (column columns c).kind (field r c)) (rows_records cells (row_count cells)) k [] d lr
      ∙ ap (λ (r : Record). cell_of (column columns c).kind (field r c)) (row-at cells (row_count cells) k ln)
      ∙ ap (cell_of (column columns c).kind) (field-at cells k c there)
      ∙ value-back (column columns c).kind (value_at (cells_at cells c) k) (fit.kinds c k lc ln)
      ∙ get_or_default (cells_at cells c) k _ d lv)

  pub cells-back : (read : List Cells) → HoldsRows columns (names_record columns) (rows_records cells (row_count cells)) read → map values read ≡ map values cells
  cells-back read h =
      let size : length read ≡ length columns = sym (length-map read _) ∙ ap length h.kinds ∙ length-map columns _ in
      let count : length (map values read) ≡ length (map values cells) = length-map read _ ∙ size ∙ sym fit.count ∙ sym (length-map cells _) in
      same_lists _ _ count (λ c d low.
      let there : c < length columns = omega (arith, length-map read values, size) in
      let here : c < length (map values cells) = omega (arith, count) in
      get_or_default (map values read) c d [] low ∙ h.cells_hold c c there there (name-at columns c there) ∙ column-back c there ∙ get_or_default (map values cells) c [] d here)

  -- the place of a fault is that of its column
  fault-column : (n c : ℕ) (w : FieldFault) → IsFieldFault columns (names_record columns) (rows_records cells (row_count cells)) n c w
      → ((k : Kind) (text : List ℕ) → IsCellOf k text → Refuses k text w → ⊥) → ⊥
  fault-column n c w f never =
      let rows = length-map-range_with_len (row_record cells) 0 (row_count cells) in
      let same : f.place ≡ c = differ f.place c f.within f.known (sym (name-at columns f.place f.within) ∙ f.name) in
      let ln : n < row_count cells = omega (arith, rows, f.there) in
      let P : ℕ → Type 0 = λ p. Refuses (column columns c).kind (field (row (rows_records cells (row_count cells)) n) p) w in
      never (column columns c).kind (field (row (rows_records cells (row_count cells)) n) c) (field-fits c n f.known ln) (subst P same f.refused)

  row-faults : (f : CsvFault) → IsRowFault columns (names_record columns) (rows_records cells (row_count cells)) false f → IsTripFault (row_count cells) f
  row-faults fault.Memory h = absurd h
  row-faults fault.Device h = absurd h
  row-faults (fault.Missing c) h = absurd h
  row-faults (fault.Unknown name) h = absurd h
  row-faults (fault.Twice c) h = absurd h
  row-faults (fault.Unclosed n) h = absurd (false≢true h.is_open)
  row-faults fault.TooMany h =
      let rows = length-map-range_with_len (row_record cells) 0 (row_count cells) in
      inr (refl, omega (arith, rows, h.0))
  row-faults (fault.Width n width) h =
      let rows = length-map-range_with_len (row_record cells) 0 (row_count cells) in
      let ln : n < row_count cells = omega (arith, rows, h.there) in
      absurd (h.other (h.is ∙ ap length (row-at cells (row_count cells) n ln) ∙ row-length cells n ∙ fit.count))
  row-faults (fault.NotInt n c cell) h = absurd (fault-column n c (why.NotInt cell) h (not-int cell))
  row-faults (fault.NotText n c) h = absurd (fault-column n c why.NotText h not-text)
  row-faults (fault.TooLong n c bytes) h = absurd (fault-column n c (why.TooLong bytes) h (too-long bytes))

  pub no-faults : (f : CsvFault) → IsFirstFault columns (table_records columns cells) false f → IsTripFault (row_count cells) f
  no-faults f (inl o) = inl o
  no-faults f (inr (inl h)) = inl (no-fault columns (names_record columns) f names-header h)
  no-faults f (inr (inr h)) = row-faults f h.1

no-mark-of : (columns : List ColumnData) (cells : List Cells) → 0 < length columns → HasNoMark columns → strip_bom (table_text columns cells) ≡ table_text columns cells
unfolding records_text
no-mark-of [] cells some h = absurd (omega arith)
no-mark-of (x ∷ rest) cells some h = no-mark _ (begins x.name (names_record rest) (records_text (rows_records cells (row_count cells))) h)

-- the records of the text are the header and the rows
pub table-back : (columns : List ColumnData) (cells : List Cells) → HasNoMark columns → CellsFit columns cells → text_records (table_text columns cells) ≡ (table_records columns cells, false)
table-back columns cells h fit =
    ap (closed_from st.StartRecord [] []) (no-mark-of columns cells fit.some h)
    ∙ records-back (table_records columns cells) (omega (arith, names-length columns, fit.some), have-fields (row_record cells) _ (λ k. omega (arith, row-length cells k, fit.count, fit.some)))

-- a list's head and rest
pub parts-same : (a b : Record) (xs ys : List Record) → a ∷ xs ≡ b ∷ ys → (a ≡ b) × (xs ≡ ys)
parts-same a b xs ys e = (cc e, cc e)
