-- What holds after so many rows.
use Rattle.std.proofs.Common.{◌≡◌, ◌≢◌, ℕ, ◌+◌, ◌<◌, ◌≤◌, Bool, true, false, List, [], ◌∷◌, ◌++◌, length, map, refl, sym, ap, ◌∙◌, subst, arith, below_more, Some, None, inl, inr}
use Rattle.std.specs.Prelude.{Option, slice_index}
use Rattle.std.proofs.lemmas.List.{length-map, map-append, get_or-map, get_or_append_left, get_or_push, length_push, length-append}
use Rattle.csv.specs.declared.reader.Reader.{Reader}
use Rattle.cs_csv.specs.Columns.{column}
use Rattle.cs_schema.specs.CatalogData.{ColumnData, no_column}
use Rattle.cs_csv.specs.Fields.{IsCellOf, Record, field, kind_at}
use Rattle.cs_csv.specs.Faults.{AddsField, AreRows, FitsBefore, HoldsRows, IsFieldFault, IsFirstFault, IsFirstRefused, IsRowOf, IsUnclosedFault, Refuses, cells_at, column_values, kinds_of, most_rows, row}
use Rattle.cs_csv.specs.FaultOf.{IsOutside, fault_of}
use Rattle.cs_csv.specs.Headers.{IsHeader, IsHeaderFault}
use Rattle.cs_csv.specs.Places.{ArePlaces}
use Rattle.cs_csv.specs.Reading.{HasRead, IfKnown, text_records}
use Rattle.cs_csv.specs.Rows.{HoldsSoFar, RowsRead}
use Rattle.cs_schema.specs.declared.cells.Cells.{Cells}
use Rattle.cs_schema.specs.declared.kinds.Kind.{Kind}
use Rattle.cs_schema.specs.declared.kinds.Kind.TheVariants as kind
use Rattle.cs_csv.specs.declared.fault.FieldFault.{FieldFault}
use Rattle.cs_csv.specs.declared.fault.FieldFault.TheVariants as why
use Rattle.cs_csv.specs.declared.fault.CsvFault.{CsvFault}
use Rattle.cs_csv.specs.declared.fault.CsvFault.TheVariants as fault
use Rattle.cs_csv.proofs.ReadLemmas.{read-first}

pub none-held : (columns : List ColumnData) (header : Record) (places : List ℕ) (cells : List Cells) → IsHeader columns header → ArePlaces columns header places
    → kinds_of cells ≡ map (λ c. c.kind) columns → ((c : ℕ) → cells_at cells c ≡ []) → HoldsSoFar columns header [] places cells
none-held columns header places cells h p k e = record {
  is_header = h;
  are_places = p;
  kinds = k;
  are_rows = λ m l. absurd (omega arith);
  held = λ c l. e c;
}

row-before : (rows : List Record) (r : Record) (m : ℕ) → m < length rows → row (rows ++ r ∷ []) m ≡ row rows m
row-before rows r m h = get_or_append_left rows (r ∷ []) [] m h

row-here : (rows : List Record) (r : Record) → row (rows ++ r ∷ []) (length rows) ≡ r
row-here rows r = get_or_push rows r [] (length rows) refl

pub map-known : (known : Option (List ℕ)) (P Q : List Record → Bool → Type 0) → ((all : List Record) (unclosed : Bool) → P all unclosed → Q all unclosed) → IfKnown known P → IfKnown known Q
map-known None P Q f p = tt
map-known (Some text) P Q f p = f (text_records text).0 (text_records text).1 p

pub for-all : (known : Option (List ℕ)) (P : List Record → Bool → Type 0) → ((all : List Record) (unclosed : Bool) → P all unclosed) → IfKnown known P
for-all None P f = tt
for-all (Some text) P f = f (text_records text).0 (text_records text).1

pub outside-fault : (known : Option (List ℕ)) (columns : List ColumnData) (f : CsvFault) → IsOutside f → IfKnown known (λ all unclosed. IsFirstFault columns all unclosed f)
outside-fault known columns f o = for-all known (λ all unclosed. IsFirstFault columns all unclosed f) (λ all unclosed. inl o)

module _ (columns : List ColumnData) (header : Record) (rows : List Record) (places : List ℕ) (cells : List Cells) (h : HoldsSoFar columns header rows places cells) where
  -- as many columns as the table has
  pub cells-count : length cells ≡ length columns
  cells-count = sym (length-map cells _) ∙ ap length h.kinds ∙ length-map columns _

  kind-is : (c : ℕ) → c < length columns → kind_at (kinds_of cells) c ≡ (column columns c).kind
  kind-is c l = ap (λ (k : List Kind). kind_at k c) h.kinds ∙ get_or-map (λ (x : ColumnData). x.kind) columns c no_column kind.Int l

  -- the place of a field is its column's
  place-is : (c i : ℕ) → c < length columns → i < length columns → field header i ≡ (column columns c).name → slice_index places c ≡ i
  place-is c i lc li e =
      h.is_header.once (slice_index places c) i (omega (arith, h.are_places.within c lc, h.is_header.count)) li (h.are_places.named c lc ∙ sym e)

  fits : (r : Record) (n : ℕ) → n ≤ length columns → ((c : ℕ) → c < n → IsCellOf (kind_at (kinds_of cells) c) (field r (slice_index places c))) → FitsBefore columns header r n
  fits r n most f c i lc li e =
      let low : c < length columns = omega arith in
      let P : Kind → Type 0 = λ k. IsCellOf k (field r i) in
      let Q : ℕ → Type 0 = λ p. IsCellOf (kind_at (kinds_of cells) c) (field r p) in
      subst P (kind-is c low) (subst Q (place-is c i low li e) (f c lc))

  -- one row more
  pub row-held : (more : List Cells) (r : Record) → length r ≡ length columns → kinds_of more ≡ kinds_of cells
      → ((c : ℕ) → c < length places → AddsField cells more (field r (slice_index places c)) c) → HoldsSoFar columns header (rows ++ r ∷ []) places more
  row-held more r width kinds adds =
      let size = length_push rows r in
      record {
        is_header = h.is_header;
        are_places = h.are_places;
        kinds = kinds ∙ h.kinds;
        are_rows = λ m l. below_more (λ k. IsRowOf columns header (row (rows ++ r ∷ []) k)) (length rows)
            (λ k b. rw (row-before rows r k b) (h.are_rows k b))
            (rw (row-here rows r) (width, fits r (length columns) (omega arith) (λ c b. (adds c (omega (arith, h.are_places.count))).0))) m (omega arith);
        held = λ c l.
            let here : c < length places = omega (arith, h.are_places.count) in
            (adds c here).1 ∙ rw (h.held c l, kind-is c l) (sym (map-append _ rows (r ∷ [])));
      }

  module _ (r : Record) (rest : List Record) (unclosed : Bool) where
    all-before : (m : ℕ) → m < length rows → row ((rows ++ r ∷ []) ++ rest) m ≡ row rows m
    all-before m l = get_or_append_left (rows ++ r ∷ []) rest [] m (omega (arith, length_push rows r)) ∙ row-before rows r m l

    all-here : row ((rows ++ r ∷ []) ++ rest) (length rows) ≡ r
    all-here = get_or_append_left (rows ++ r ∷ []) rest [] (length rows) (omega (arith, length_push rows r)) ∙ row-here rows r

    here-within : length rows < length ((rows ++ r ∷ []) ++ rest)
    here-within = omega (arith, length-append (rows ++ r ∷ []) rest, length_push rows r)

    earlier-rows : AreRows columns header ((rows ++ r ∷ []) ++ rest) (length rows)
    earlier-rows m l = rw (all-before m l) (h.are_rows m l)

    many-fault : most_rows ≤ length rows → IsFirstFault columns (header ∷ ((rows ++ r ∷ []) ++ rest)) unclosed fault.TooMany
    many-fault e = inr (inr (h.is_header, (omega (arith, here-within), λ m l. earlier-rows m (omega arith))))

    width-fault : length rows < most_rows → length r ≢ length columns → IsFirstFault columns (header ∷ ((rows ++ r ∷ []) ++ rest)) unclosed (fault.Width (length rows) (length r))
    width-fault low ne = inr (inr (h.is_header, record { there = here-within; few = low; earlier = earlier-rows; is = sym (ap length all-here); other = ne }))

    field-fault : (c : ℕ) (w : FieldFault) → length rows < most_rows → length r ≡ length columns → IsFirstRefused cells places r c w
        → IsFieldFault columns header ((rows ++ r ∷ []) ++ rest) (length rows) c w
    field-fault c w few e f =
        let low : c < length columns = omega (arith, f.within, h.are_places.count) in
        let P : Kind → Type 0 = λ k. Refuses k (field r (slice_index places c)) w in
        record {
          there = here-within;
          few = few;
          known = low;
          earlier = earlier-rows;
          width = ap length all-here ∙ e;
          place = slice_index places c;
          within = omega (arith, h.are_places.within c low, h.is_header.count);
          name = h.are_places.named c low;
          before = rw all-here (fits r c (omega arith) f.before);
          refused = rw all-here (subst P (kind-is c low) f.refused);
        }

    some-fault : (c : ℕ) (w : FieldFault) → length rows < most_rows → length r ≡ length columns → IsFirstRefused cells places r c w
        → IsFirstFault columns (header ∷ ((rows ++ r ∷ []) ++ rest)) unclosed (fault_of (length rows) c w)
    some-fault c why.Memory low e f = inl tt
    some-fault c (why.NotInt cell) low e f = inr (inr (h.is_header, field-fault c (why.NotInt cell) low e f))
    some-fault c why.NotText low e f = inr (inr (h.is_header, field-fault c why.NotText low e f))
    some-fault c (why.TooLong bytes) low e f = inr (inr (h.is_header, field-fault c (why.TooLong bytes) low e f))

-- the records that were read stand first in the text
first-of : {R : Type 0} (rem : R → Option (List ℕ)) (known : Option (List ℕ)) (rdr : Reader R) (ahead : Record) (read : List Record) (P : List Record → Bool → Type 0) → HasRead rem known rdr ahead read
    → ((rest : List Record) (unclosed : Bool) → P (read ++ rest) unclosed) → IfKnown known P
first-of rem known rdr ahead read P h f = map-known known (λ all unclosed. (rest : List Record) × (all ≡ read ++ rest)) P (λ all unclosed s. rw s.1 (f s.0 unclosed)) (read-first rem known rdr ahead read h)

module _ {R : Type 0} (rem : R → Option (List ℕ)) (known : Option (List ℕ)) (rdr new : Reader R) (before ahead : Record) (columns : List ColumnData) (places : List ℕ) (cells : List Cells) (n : ℕ) (header : Record) (rows : List Record) (r : Record)
    (old : RowsRead rem known rdr before columns places cells n header rows) (more : HasRead rem known new ahead ((header ∷ rows) ++ r ∷ [])) where
  pub read-many : most_rows ≤ n → IfKnown known (λ all unclosed. IsFirstFault columns all unclosed fault.TooMany)
  read-many e = first-of rem known new _ _ _ more (λ rest unclosed. many-fault columns header rows places cells old.holds r rest unclosed (omega (arith, old.size)))

  pub read-width : n < most_rows → length r ≢ length columns → IfKnown known (λ all unclosed. IsFirstFault columns all unclosed (fault.Width n (length r)))
  read-width low ne = first-of rem known new _ _ _ more (λ rest unclosed. rw (sym old.size) (width-fault columns header rows places cells old.holds r rest unclosed (omega (arith, old.size)) ne))

  pub read-fault : (c : ℕ) (w : FieldFault) (f : CsvFault) → n < most_rows → length r ≡ length columns → IsFirstRefused cells places r c w → f ≡ fault_of n c w
      → IfKnown known (λ all unclosed. IsFirstFault columns all unclosed f)
  read-fault c w f low e refused is =
      let full : f ≡ fault_of (length rows) c w = is ∙ ap (λ (m : ℕ). fault_of m c w) (sym old.size) in
      first-of rem known new _ _ _ more (λ rest unclosed.
      let P : CsvFault → Type 0 = λ g. IsFirstFault columns (header ∷ ((rows ++ r ∷ []) ++ rest)) unclosed g in
      subst P (sym full) (some-fault columns header rows places cells old.holds r rest unclosed c w (omega (arith, old.size)) e refused))

  pub read-row : (more_cells : List Cells) → length r ≡ length columns → kinds_of more_cells ≡ kinds_of cells → ((c : ℕ) → c < length places → AddsField cells more_cells (field r (slice_index places c)) c)
      → RowsRead rem known new ahead columns places more_cells (n + 1) header (rows ++ r ∷ [])
  read-row more_cells e kinds adds = record {
    read = more;
    size = length_push rows r ∙ ap (λ (m : ℕ). m + 1) old.size;
    holds = row-held columns header rows places cells old.holds more_cells r e kinds adds;
  }

-- the rows that were read are those of the table
pub rows-held : (columns : List ColumnData) (header : Record) (rows : List Record) (places : List ℕ) (cells : List Cells) → HoldsSoFar columns header rows places cells → length rows ≤ most_rows → HoldsRows columns header rows cells
rows-held columns header rows places cells h few = record {
  few = few;
  header_holds = h.is_header;
  rows_hold = h.are_rows;
  kinds = h.kinds;
  cells_hold = λ c i lc li e. h.held c lc ∙ ap (λ (p : ℕ). column_values (column columns c) p rows) (place-is columns header rows places cells h c i lc li e);
}

pub header-fault : {R : Type 0} (rem : R → Option (List ℕ)) (known : Option (List ℕ)) (rdr : Reader R) (ahead : Record) (columns : List ColumnData) (header : Record) (f : CsvFault) → HasRead rem known rdr ahead (header ∷ []) → IsHeaderFault columns header f
    → IfKnown known (λ all unclosed. IsFirstFault columns all unclosed f)
header-fault rem known rdr ahead columns header f h bad = first-of rem known rdr ahead (header ∷ []) (λ all unclosed. IsFirstFault columns all unclosed f) h (λ rest unclosed. inr (inl bad))

-- a text with no record has no field that names the first column
pub no-header : (columns : List ColumnData) → 0 < length columns → IsFirstFault columns [] false (fault.Missing 0)
no-header columns some = inr (record {
  known = some;
  names = record { named = λ i l. absurd (omega arith); once = λ i j l k. absurd (omega arith) };
  earlier = λ d l. absurd (omega arith);
  none = λ i l. absurd (omega arith);
})

pub empty-fault : (known : Option (List ℕ)) (columns : List ColumnData) → 0 < length columns → IfKnown known (λ all unclosed. (all ≡ []) × (unclosed ≡ false)) → IfKnown known (λ all unclosed. IsFirstFault columns all unclosed (fault.Missing 0))
empty-fault known columns some e = map-known known (λ all unclosed. (all ≡ []) × (unclosed ≡ false)) (λ all unclosed. IsFirstFault columns all unclosed (fault.Missing 0)) (λ all unclosed s. rw (s.0, s.1) (no-header columns some)) e

-- a text that ends within a quoted cell of its header
pub unclosed-header : (known : Option (List ℕ)) (columns : List ColumnData) (f : CsvFault) → f ≡ fault.Unclosed 0 → IfKnown known (λ all unclosed. (all ≡ []) × (unclosed ≡ true)) → IfKnown known (λ all unclosed. IsFirstFault columns all unclosed f)
unclosed-header known columns f is e = map-known known (λ all unclosed. (all ≡ []) × (unclosed ≡ true)) (λ all unclosed. IsFirstFault columns all unclosed f) (λ all unclosed s. rw (s.0, s.1) (inr is)) e

-- one that ends so after rows
pub unclosed-row : {R : Type 0} (rem : R → Option (List ℕ)) (known : Option (List ℕ)) (rdr : Reader R) (ahead : Record) (columns : List ColumnData) (places : List ℕ) (cells : List Cells) (n : ℕ) (header : Record) (rows : List Record) (f : CsvFault)
    → RowsRead rem known rdr ahead columns places cells n header rows → n ≤ most_rows → f ≡ fault.Unclosed (n + 1) → IfKnown known (λ all unclosed. (all ≡ header ∷ rows) × (unclosed ≡ true)) → IfKnown known (λ all unclosed. IsFirstFault columns all unclosed f)
unclosed-row rem known rdr ahead columns places cells n header rows f old few is e =
    let fault_is : IsUnclosedFault columns header rows true (n + 1) = record { is_open = refl; few = omega (arith, old.size); earlier = old.holds.are_rows; is = omega (arith, old.size) } in
    map-known known (λ all unclosed. (all ≡ header ∷ rows) × (unclosed ≡ true)) (λ all unclosed. IsFirstFault columns all unclosed f) (λ all unclosed s. rw (s.0, s.1, is) (inr (inr (old.holds.is_header, fault_is)))) e
