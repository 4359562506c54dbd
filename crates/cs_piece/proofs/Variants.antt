-- Each code for each kind of cells, as an encoding of columns of values.
use Rattle.std.proofs.Common.{◌≡◌, ℕ, ℤ, ◌≤◌, ◌↔◌, Bool, IsTrue, List, [], ◌∷◌, ◌++◌, length, map, refl, sym, ap, subst, ◌∙◌, arith, inl, inr}
use Rattle.std.specs.Prelude.{nat_eq}
use Rattle.std.specs.Ordering.{nat_cmp, int_eq, int_cmp, is_eq}
use Rattle.std.specs.Cmp.Lexicographic.{pointwise, slice_cmp, nat_list_eq_equiv, texts_ties}
use Rattle.std.specs.List.{AllByRecursion}
use Rattle.std.proofs.lemmas.Cmp.{int_eq_equiv}
use Rattle.std.proofs.lemmas.List.{length-map, map-append}
use Rattle.cs_schema.specs.declared.kinds.Code.{Code}
use Rattle.cs_schema.specs.declared.kinds.Kind.{Kind}
use Rattle.cs_schema.specs.declared.cells.Value.{Value}
use Rattle.cs_schema.specs.Values.{value_eq, value_cmp, IsOfKind}
use Rattle.cs_schema.specs.Lists.{IsIn}
use Rattle.cs_codec.specs.Cells.{int_cell, text_cell, IsInt, IsText}
use Rattle.cs_codec.specs.CellLaws.{int_exact, int_begins_one, text_exact, text_begins_one, int_some_bytes, text_some_bytes}
use Rattle.cs_codec.specs.Encodings.{HasOneText, IsColumn, IsShort, JoinFits, JoinsTo, TellsJoin, Writes}
use Rattle.cs_codec.specs.Texts.{plain_text, runs_text, differences_text, bitmaps_text, NeverFalls}
use Rattle.cs_codec.specs.Differences.{NeverFallsShort}
use Rattle.cs_codec.specs.DifferenceLaws.{differences_one_list}
use Rattle.cs_codec.specs.PlainLaws.{plain_one_list}
use Rattle.cs_codec.specs.RunLaws.{runs_one_list}
use Rattle.cs_codec.specs.BitmapLaws.{bitmaps_have_one_list}
use Rattle.cs_codec.specs.ColumnText.{cell_bytes, int_of, column_text, FitsColumn}
use Rattle.cs_piece.specs.Columns.{CanEncode, IsColumnOf, HaveOneColumn}
use Rattle.cs_codec.specs.TextMaps.{IsSame, plain_text-map, runs_text-map, bitmaps_text-map}
use Rattle.cs_piece.specs.Pieces.{StandsFor, FitTogether}

-- ---- ints and texts as values

int_ties : (x y : ℤ) → int_eq x y ≡ is_eq (int_cmp x y)
int_ties x y = refl

ints_are : IsSame Value.Int int_cell int_eq int_cmp cell_bytes value_eq value_cmp
ints_are = record { same_bytes = λ x. refl; same_eq = λ x y. sym (int_ties x y); same_cmp = λ x y. refl }

texts_are : IsSame Value.Text text_cell (pointwise nat_eq) (slice_cmp nat_cmp) cell_bytes value_eq value_cmp
texts_are = record { same_bytes = λ x. refl; same_eq = λ x y. sym (texts_ties x y); same_cmp = λ x y. refl }

ints_back : (xs : List ℤ) → map int_of (map Value.Int xs) ≡ xs
ints_back [] = refl
ints_back (x ∷ xs) = ap (λ (z : List ℤ). x ∷ z) (ints_back xs)

-- the ints or texts that are the values of a column of one kind
pub record CellsOf {C : Type 0} (f : C → Value) (is_cell : C → Type 0) (v : List Value) : Type 0 where
  pub cells : List C
  pub values_are : v ≡ map f cells
  pub hold : AllByRecursion is_cell cells

ints_of : (v : List Value) → ((x : Value) → IsIn x v → IsOfKind Kind.Int x) → CellsOf Value.Int IsInt v
ints_of [] h = record { cells = []; values_are = refl; hold = tt }
ints_of (Value.Int z ∷ v) h =
    let rest = ints_of v (λ x m. h x (inr m)) in
    record { cells = z ∷ rest.cells; values_are = ap (λ (w : List Value). Value.Int z ∷ w) rest.values_are; hold = (h (Value.Int z) (inl refl), rest.hold) }
ints_of (Value.Text b ∷ v) h = absurd (h (Value.Text b) (inl refl))

texts_of : (v : List Value) → ((x : Value) → IsIn x v → IsOfKind Kind.Text x) → CellsOf Value.Text IsText v
texts_of [] h = record { cells = []; values_are = refl; hold = tt }
texts_of (Value.Text b ∷ v) h =
    let rest = texts_of v (λ x m. h x (inr m)) in
    let is = h (Value.Text b) (inl refl) in
    record { cells = b ∷ rest.cells; values_are = ap (λ (w : List Value). Value.Text b ∷ w) rest.values_are; hold = ((is.1, is.0), rest.hold) }
texts_of (Value.Int z ∷ v) h = absurd (h (Value.Int z) (inl refl))

ints_to : (xs : List ℤ) → AllByRecursion IsInt xs → (x : Value) → IsIn x (map Value.Int xs) → IsOfKind Kind.Int x
ints_to [] h x m = absurd m
ints_to (z ∷ xs) h x (inl e) = subst (λ (w : Value). IsOfKind Kind.Int w) (sym e) h.0
ints_to (z ∷ xs) h x (inr m) = ints_to xs h.1 x m

texts_to : (xs : List (List ℕ)) → AllByRecursion IsText xs → (x : Value) → IsIn x (map Value.Text xs) → IsOfKind Kind.Text x
texts_to [] h x m = absurd m
texts_to (z ∷ xs) h x (inl e) = subst (λ (w : Value). IsOfKind Kind.Text w) (sym e) (h.0.1, h.0.0)
texts_to (z ∷ xs) h x (inr m) = texts_to xs h.1 x m

-- ---- a code for a kind

pub record IsVariant {C : Type 0} (f : C → Value) (text : List C → List ℕ) (fits : List C → Type 0) (is_cell : C → Type 0) (code : Code) (kind : Kind) : Type 0 where
  pub text_is : (xs : List C) → column_text code (map f xs) ≡ text xs
  pub fits_to : (xs : List C) → fits xs → CanEncode code kind (map f xs)
  pub fits_from : (xs : List C) → CanEncode code kind (map f xs) → fits xs
  pub cells_of : (v : List Value) → ((x : Value) → IsIn x v → IsOfKind kind x) → CellsOf f is_cell v
  pub cells_to : (xs : List C) → AllByRecursion is_cell xs → (x : Value) → IsIn x (map f xs) → IsOfKind kind x
  pub injective : (xs ys : List C) → map f xs ≡ map f ys → xs ≡ ys
  pub one_list : HasOneText text fits is_cell

ints_injective : (xs ys : List ℤ) → map Value.Int xs ≡ map Value.Int ys → xs ≡ ys
ints_injective xs ys e = sym (ints_back xs) ∙ ap (λ (v : List Value). map int_of v) e ∙ ints_back ys

texts_injective : (xs ys : List (List ℕ)) → map Value.Text xs ≡ map Value.Text ys → xs ≡ ys
texts_injective xs ys e = sym (back xs) ∙ ap (λ (v : List Value). map bytes_of v) e ∙ back ys
  where
    bytes_of : Value → List ℕ
    bytes_of (Value.Int x) = []
    bytes_of (Value.Text b) = b

    back : (zs : List (List ℕ)) → map bytes_of (map Value.Text zs) ≡ zs
    back [] = refl
    back (z ∷ zs) = ap (λ (w : List (List ℕ)). z ∷ w) (back zs)

short_to : {C : Type 0} (f : C → Value) (xs : List C) → IsShort xs → length (map f xs) ≤ 1048576
short_to f xs h = omega (arith, length-map xs f)

short_from : {C : Type 0} (f : C → Value) (xs : List C) → length (map f xs) ≤ 1048576 → IsShort xs
short_from f xs h = omega (arith, length-map xs f)

pub int_runs : IsVariant Value.Int (runs_text int_cell int_eq) IsShort IsInt Code.Runs Kind.Int
int_runs = record {
  text_is = runs_text-map Value.Int int_cell int_eq int_cmp cell_bytes value_eq value_cmp ints_are;
  fits_to = λ xs h. record { count = short_to Value.Int xs h; order = tt };
  fits_from = λ xs h. short_from Value.Int xs h.count;
  cells_of = ints_of;
  cells_to = ints_to;
  injective = ints_injective;
  one_list = runs_one_list int_cell IsInt int_eq (record { itself = int_eq_equiv.refl; exact = int_exact }) int_begins_one;
}

pub text_runs : IsVariant Value.Text (runs_text text_cell (pointwise nat_eq)) IsShort IsText Code.Runs Kind.Text
text_runs = record {
  text_is = runs_text-map Value.Text text_cell (pointwise nat_eq) (slice_cmp nat_cmp) cell_bytes value_eq value_cmp texts_are;
  fits_to = λ xs h. record { count = short_to Value.Text xs h; order = tt };
  fits_from = λ xs h. short_from Value.Text xs h.count;
  cells_of = texts_of;
  cells_to = texts_to;
  injective = texts_injective;
  one_list = runs_one_list text_cell IsText (pointwise nat_eq) (record { itself = nat_list_eq_equiv.refl; exact = text_exact }) text_begins_one;
}

pub int_bitmaps : IsVariant Value.Int (bitmaps_text int_cell int_eq int_cmp) IsShort IsInt Code.Bitmaps Kind.Int
int_bitmaps = record {
  text_is = bitmaps_text-map Value.Int int_cell int_eq int_cmp cell_bytes value_eq value_cmp ints_are;
  fits_to = λ xs h. record { count = short_to Value.Int xs h; order = tt };
  fits_from = λ xs h. short_from Value.Int xs h.count;
  cells_of = ints_of;
  cells_to = ints_to;
  injective = ints_injective;
  one_list = bitmaps_have_one_list int_cell IsInt int_eq int_cmp (record { itself = int_eq_equiv.refl; exact = int_exact }) int_ties int_begins_one;
}

pub text_bitmaps : IsVariant Value.Text (bitmaps_text text_cell (pointwise nat_eq) (slice_cmp nat_cmp)) IsShort IsText Code.Bitmaps Kind.Text
text_bitmaps = record {
  text_is = bitmaps_text-map Value.Text text_cell (pointwise nat_eq) (slice_cmp nat_cmp) cell_bytes value_eq value_cmp texts_are;
  fits_to = λ xs h. record { count = short_to Value.Text xs h; order = tt };
  fits_from = λ xs h. short_from Value.Text xs h.count;
  cells_of = texts_of;
  cells_to = texts_to;
  injective = texts_injective;
  one_list = bitmaps_have_one_list text_cell IsText (pointwise nat_eq) (slice_cmp nat_cmp) (record { itself = nat_list_eq_equiv.refl; exact = text_exact }) texts_ties text_begins_one;
}

pub rising_ints : IsVariant Value.Int differences_text NeverFallsShort IsInt Code.Differences Kind.Int
rising_ints = record {
  text_is = λ xs. ap (λ (z : List ℤ). differences_text z) (ints_back xs);
  fits_to = λ xs h. record { count = short_to Value.Int xs h.short; order = subst (λ (z : List ℤ). NeverFalls z) (sym (ints_back xs)) h.never_falls };
  fits_from = λ xs h. record { short = short_from Value.Int xs h.count; never_falls = subst (λ (z : List ℤ). NeverFalls z) (ints_back xs) h.order };
  cells_of = ints_of;
  cells_to = ints_to;
  injective = ints_injective;
  one_list = differences_one_list;
}

pub plain_ints : IsVariant Value.Int (plain_text int_cell) IsShort IsInt Code.Plain Kind.Int
plain_ints = record {
  text_is = plain_text-map Value.Int int_cell int_eq int_cmp cell_bytes value_eq value_cmp ints_are;
  fits_to = λ xs h. record { count = short_to Value.Int xs h; order = tt };
  fits_from = λ xs h. short_from Value.Int xs h.count;
  cells_of = ints_of;
  cells_to = ints_to;
  injective = ints_injective;
  one_list = plain_one_list int_cell IsInt int_begins_one int_some_bytes;
}

pub plain_texts : IsVariant Value.Text (plain_text text_cell) IsShort IsText Code.Plain Kind.Text
plain_texts = record {
  text_is = plain_text-map Value.Text text_cell (pointwise nat_eq) (slice_cmp nat_cmp) cell_bytes value_eq value_cmp texts_are;
  fits_to = λ xs h. record { count = short_to Value.Text xs h; order = tt };
  fits_from = λ xs h. short_from Value.Text xs h.count;
  cells_of = texts_of;
  cells_to = texts_to;
  injective = texts_injective;
  one_list = plain_one_list text_cell IsText text_begins_one text_some_bytes;
}

-- ---- what the laws of a code say about values

module _ {C : Type 0} (f : C → Value) (text : List C → List ℕ) (fits : List C → Type 0) (is_cell : C → Type 0) (code : Code) (kind : Kind) (is : IsVariant f text fits is_cell code kind) where
  pub one_column : (x y : List Value) → FitsColumn code kind x → FitsColumn code kind y → column_text code x ≡ column_text code y → x ≡ y
  one_column x y hx hy e =
      let xs = is.cells_of x hx.cells in
      let ys = is.cells_of y hy.cells in
      let fx : CanEncode code kind (map f xs.cells) = subst (λ (v : List Value). CanEncode code kind v) xs.values_are (record { count = hx.count; order = hx.order }) in
      let fy : CanEncode code kind (map f ys.cells) = subst (λ (v : List Value). CanEncode code kind v) ys.values_are (record { count = hy.count; order = hy.order }) in
      let texts : text xs.cells ≡ text ys.cells = sym (is.text_is xs.cells) ∙ ap (λ (v : List Value). column_text code v) (sym xs.values_are) ∙ e ∙ ap (λ (v : List Value). column_text code v) ys.values_are ∙ is.text_is ys.cells in
      xs.values_are ∙ ap (λ (z : List C). map f z) (is.one_list xs.cells ys.cells (is.fits_from xs.cells fx) (is.fits_from ys.cells fy) xs.hold ys.hold texts) ∙ sym ys.values_are

  pub column_found : (bytes : List ℕ) (rows : ℕ) (cells : List C) → IsColumn text fits is_cell bytes rows cells → IsColumnOf code kind bytes rows (map f cells)
  column_found bytes rows cells h =
      let can = is.fits_to cells h.list_fits in
      record {
        text_is = h.text_is ∙ sym (is.text_is cells);
        rows_are = length-map cells f ∙ h.rows_are;
        fits = record { count = can.count; cells = is.cells_to cells h.cells_hold; order = can.order };
      }

  pub column_missing : (bytes : List ℕ) (rows : ℕ) → ((cells : List C) → IsColumn text fits is_cell bytes rows cells → ⊥) → (v : List Value) → IsColumnOf code kind bytes rows v → ⊥
  column_missing bytes rows none v h =
      let xs = is.cells_of v h.fits.cells in
      let can : CanEncode code kind (map f xs.cells) = subst (λ (w : List Value). CanEncode code kind w) xs.values_are (record { count = h.fits.count; order = h.fits.order }) in
      none xs.cells (record {
        text_is = h.text_is ∙ ap (λ (w : List Value). column_text code w) xs.values_are ∙ is.text_is xs.cells;
        rows_are = sym (length-map xs.cells f) ∙ ap (λ (w : List Value). length w) (sym xs.values_are) ∙ h.rows_are;
        list_fits = is.fits_from xs.cells can;
        cells_hold = xs.hold;
      })

  module _ {P : Type 0} (is_part : P → List C → Type 0) where
    pub written_is : (part : P) (out : List ℕ) (v : List Value) → Writes text is_part part out → StandsFor f is_part part v → out ≡ column_text code v
    written_is part out v w h = w h.cells h.part_is ∙ sym (is.text_is h.cells) ∙ ap (λ (z : List Value). column_text code z) (sym h.values_are)

    two_parts : (x y : List Value) (xs ys : List C) → x ≡ map f xs → y ≡ map f ys → x ++ y ≡ map f (xs ++ ys)
    two_parts x y xs ys ex ey = ap (λ (z : List Value). z ++ y) ex ∙ ap (λ (z : List Value). map f xs ++ z) ey ∙ sym (map-append f xs ys)

    pub parts_fit : (left right : P) (x y : List Value) → StandsFor f is_part left x → StandsFor f is_part right y → CanEncode code kind (x ++ y) → JoinFits fits is_part left right
    parts_fit left right x y hx hy can = record {
      front = hx.cells;
      back = hy.cells;
      left_part = hx.part_is;
      right_part = hy.part_is;
      joined = is.fits_from (hx.cells ++ hy.cells) (subst (λ (z : List Value). CanEncode code kind z) (two_parts x y hx.cells hy.cells hx.values_are hy.values_are) can);
    }

    pub parts_join : (left right joined : P) (x y : List Value) → JoinsTo is_part left right joined → StandsFor f is_part left x → StandsFor f is_part right y → StandsFor f is_part joined (x ++ y)
    parts_join left right joined x y j hx hy = record {
      cells = hx.cells ++ hy.cells;
      values_are = two_parts x y hx.cells hy.cells hx.values_are hy.values_are;
      part_is = j hx.cells hy.cells hx.part_is hy.part_is;
    }

    pub parts_tell : (left right : P) (told : Bool) (x y : List Value) → TellsJoin fits is_part left right told → StandsFor f is_part left x → StandsFor f is_part right y → IsTrue told ↔ CanEncode code kind (x ++ y)
    parts_tell left right told x y t hx hy =
        let same = two_parts x y hx.cells hy.cells hx.values_are hy.values_are in
        let iff = t hx.cells hy.cells hx.part_is hy.part_is in
        (λ h. subst (λ (z : List Value). CanEncode code kind z) (sym same) (is.fits_to (hx.cells ++ hy.cells) (iff.0 h)), λ can. iff.1 (is.fits_from (hx.cells ++ hy.cells) (subst (λ (z : List Value). CanEncode code kind z) same can)))

-- ---- no two columns have the same body

pub have_one_column : HaveOneColumn
have_one_column Code.Runs Kind.Int x y hx hy e = one_column Value.Int (runs_text int_cell int_eq) IsShort IsInt Code.Runs Kind.Int int_runs x y hx hy e
have_one_column Code.Runs Kind.Text x y hx hy e = one_column Value.Text (runs_text text_cell (pointwise nat_eq)) IsShort IsText Code.Runs Kind.Text text_runs x y hx hy e
have_one_column Code.Bitmaps Kind.Int x y hx hy e = one_column Value.Int (bitmaps_text int_cell int_eq int_cmp) IsShort IsInt Code.Bitmaps Kind.Int int_bitmaps x y hx hy e
have_one_column Code.Bitmaps Kind.Text x y hx hy e = one_column Value.Text (bitmaps_text text_cell (pointwise nat_eq) (slice_cmp nat_cmp)) IsShort IsText Code.Bitmaps Kind.Text text_bitmaps x y hx hy e
have_one_column Code.Differences Kind.Int x y hx hy e = one_column Value.Int differences_text NeverFallsShort IsInt Code.Differences Kind.Int rising_ints x y hx hy e
have_one_column Code.Differences Kind.Text x y hx hy e = hx.order ∙ sym hy.order
have_one_column Code.Plain Kind.Int x y hx hy e = one_column Value.Int (plain_text int_cell) IsShort IsInt Code.Plain Kind.Int plain_ints x y hx hy e
have_one_column Code.Plain Kind.Text x y hx hy e = one_column Value.Text (plain_text text_cell) IsShort IsText Code.Plain Kind.Text plain_texts x y hx hy e

-- ---- the code and kind of a piece

pub can_at : (code code' : Code) (kind kind' : Kind) (v : List Value) → code ≡ code' → kind ≡ kind' → CanEncode code kind v → CanEncode code' kind' v
can_at code code' kind kind' v e f h = subst (λ (c : Code). CanEncode c kind' v) e (subst (λ (k : Kind). CanEncode code k v) f h)

pub fit_together : (code0 : Code) (kind0 : Kind) (code code' : Code) (kind kind' : Kind) (told : Bool) (x y : List Value) → code0 ≡ code → code0 ≡ code' → kind0 ≡ kind → kind0 ≡ kind' → (IsTrue told ↔ CanEncode code0 kind0 (x ++ y)) → IsTrue told ↔ FitTogether code kind x code' kind' y
fit_together code0 kind0 code code' kind kind' told x y a b c d iff =
    (λ t. (sym a ∙ b, sym c ∙ d, can_at code0 code kind0 kind (x ++ y) a c (iff.0 t)), λ h. iff.1 (can_at code code0 kind kind0 (x ++ y) (sym a) (sym c) h.2))

-- ---- the empty column of texts under differences

pub no_texts_found : (bytes : List ℕ) (rows : ℕ) (v : List Value) → rows ≡ 0 → length bytes ≡ 0 → v ≡ [] → IsColumnOf Code.Differences Kind.Text bytes rows v
no_texts_found [] rows v r b e =
    subst (λ (w : List Value). IsColumnOf Code.Differences Kind.Text [] rows w) (sym e) (record { text_is = refl; rows_are = sym r; fits = record { count = omega arith; cells = λ x m. absurd m; order = refl } })
no_texts_found (b ∷ bytes) rows v r h e = absurd (omega (arith, h))

pub no_texts_only : (bytes : List ℕ) (rows : ℕ) (v : List Value) → IsColumnOf Code.Differences Kind.Text bytes rows v → (rows ≡ 0) × (length bytes ≡ 0)
no_texts_only bytes rows v h =
    let empty : v ≡ [] = h.fits.order in
    (sym h.rows_are ∙ ap (λ (w : List Value). length w) empty, ap (λ (w : List ℕ). length w) (h.text_is ∙ ap (λ (w : List Value). column_text Code.Differences w) empty))
