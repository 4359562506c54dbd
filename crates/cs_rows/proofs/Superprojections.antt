-- Rows of projections that have every column are full by themselves.
use Rattle.std.proofs.Common.{◌≡◌, ℕ, zero, suc, ◌+◌, ◌-◌, ◌<◌, ◌≤◌, List, [], ◌∷◌, ◌++◌, length, map, get_or, take, drop, refl, sym, ap, ◌∙◌, subst, arith, Bool, true, false, cond, ◌==◌, ◌&&◌, Option, Some, None, zero-add, eqb-true, not, le-ltb}
use Rattle.std.specs.Prelude.{All, nat_lt, pos, slice_index_or}
use Rattle.std.specs.List.{find, filter_map, cons_option, list_all, list_any, position_or_len, range_with_len}
use Rattle.std.specs.Option.{is_some, is_none, option_and_then, option_map_or}
use Rattle.std.proofs.lemmas.List.{length-map, get_or-map, get_or-take, get_or-drop, length-take-le, length-drop}
use Rattle.std.proofs.lemmas.List.Elements.{All-head, All-tail}
use Rattle.std.proofs.lemmas.Option.{none-some}
use Rattle.std.proofs.lemmas.List.FromFn.{fill_by_all, get_or-map-range_with_len, length-map-range_with_len}
use Rattle.cs_schema.specs.declared.cells.Cells.{Cells}
use Rattle.cs_schema.specs.declared.cells.Value.{Value}
use Rattle.cs_schema.specs.Values.{values}
use Rattle.cs_schema.specs.declared.kinds.Kind.{Kind}
use Rattle.cs_schema.specs.CatalogData.{CatalogData, column, projection, kind_at}
use Rattle.cs_segment.specs.SegmentData.{kinds_at}
use Rattle.cs_schema.specs.Lists.{numbers_below}
use Rattle.cs_schema.specs.Losses.{Sites}
use Rattle.cs_schema.specs.Rows.{Row, cell}
use Rattle.cs_delta.specs.Image.{ImageData, Pair}
use Rattle.cs_delta.specs.KindedImage.{KindedImage, image_column}
use Rattle.cs_safety.specs.Paths.{holds_column}
use Rattle.cs_rows.specs.Walk.{Contents, image_cell}
use Rattle.cs_rows.specs.WalkByRows.{Reached, Found, numbers_of, found, found_from, source_in, is_full, found_row, level, with_level, row_landing, is_stray_landing}
use Rattle.cs_rows.specs.RangeByRows.{is_stray_row, fresh_row, given_row}
use Rattle.cs_rows.specs.RowSteps.{reached_from, row_at}
use Rattle.cs_rows.specs.Superprojections.{has_all, HasAll, own_cells, is_found_before, is_fresh, is_given}
use Rattle.cs_rows.specs.Survivors.{SurvivorsData, contents_of, image_at, held}
use Rattle.cs_rows.proofs.RowLemmas.{column_cell, position_first}
use Rattle.cs_rows.proofs.RangeLemmas.{map_append}
use Rattle.cs_rows.proofs.FoundRows.{Grows, if_given}
use Rattle.cs_rows.proofs.FirstLemmas.{one_of_all}

-- a projection that has all columns has each column
pub all_held : (C : CatalogData) (p : ℕ) → HasAll C p → (c : ℕ) → c < length C.columns → holds_column C p c ≡ true
all_held C p all c h = one_of_all (holds_column C p) (length C.columns) all c h

module _ (C : CatalogData) (L : Sites) (S : Contents) where
  -- the row from which a walk starts stays the first that it reached
  pub record Begins (x : Reached) (F : Found) : Type 0 where
    pub rest : List Reached
    pub is : F.reached ≡ x ∷ rest

  some_is : {X : Type 0} (x y : X) → Some x ≡ Some y → x ≡ y
  some_is x y e = ap (λ (o : Option _). Rattle.std.specs.Option.unwrap_or o x) e

  pub begins : (n : ℕ) (F G : Found) (x : Reached) → Begins x F → found C L S n F ≡ Some G → Begins x G
  begins zero F G x b e = subst (Begins x) (some_is F G e) b
  begins (suc n) F G x b e = go (list_any is_stray_landing (level C L S F)) e (begins n (with_level F (level C L S F)) G x)
    where
      xs : List Reached
      xs = filter_map row_landing (level C L S F)

      go : (stray : Bool) → cond stray None (found C L S n (with_level F (level C L S F))) ≡ Some G → (Begins x (with_level F (level C L S F)) → found C L S n (with_level F (level C L S F)) ≡ Some G → Begins x G) → Begins x G
      go true f later = absurd (none-some G f)
      go false f later = later (record { rest = b.rest ++ xs; is = ap (λ (l : List Reached). l ++ xs) b.is }) f

  -- the row as it is in its own image
  abbrev pub own_row : Reached → Row
  own_row x = map (λ c. image_cell C S x.0 c x.1) (numbers_below (length C.columns))

  module _ (keyed : C.key < length C.columns) (x : Reached) (all : HasAll C x.0) (F : Found) (b : Begins x F) where
    pub source_is : (c : ℕ) → c < length C.columns → source_in C F c ≡ Some x
    source_is c h =
        ap (find (λ (r : Reached). holds_column C r.0 c)) b.is
        ∙ ap (λ (held : Bool). cond held (Some x) (find (λ (r : Reached). holds_column C r.0 c) b.rest)) (all_held C x.0 all c h)

    full_below : (n : ℕ) (start : ℕ) → start + n ≤ length C.columns → list_all (λ c. is_some (source_in C F c)) (range_with_len start n) ≡ true
    full_below zero start h = refl
    full_below (suc n) start h = (λ i. is_some (source_is start (omega (arith, h)) i) && full_below n (start + 1) (omega (arith, h)) i)

    own_full : is_full C F ≡ true
    own_full = full_below (length C.columns) 0 (omega arith)

    -- its key is its own, so no earlier walk finds it
    not_before : is_found_before C (numbers_of F.reached) ≡ false
    not_before =
        let later : ℕ → Bool = λ q. nat_lt q x.0 && has_all C q in
        ap (λ (l : List Reached). is_found_before C (numbers_of l)) b.is
        ∙ ap (λ (held : Bool). option_map_or later (cond held (Some x.0) (find (λ q. holds_column C q C.key) (numbers_of b.rest))) false) (all_held C x.0 all C.key keyed)
        ∙ ap (λ (less : Bool). less && has_all C x.0) (le-ltb x.0 x.0 (omega arith))

    own_fresh : is_fresh C F ≡ true
    own_fresh = λ i. own_full i && not (not_before i)

    own_given : (fresh_only : Bool) → is_given fresh_only C F ≡ true
    own_given true = own_fresh
    own_given false = own_full

    own_found : found_row C S F ≡ own_row x
    own_found =
        let read : ℕ → Value = λ c. option_map_or (λ (r : Reached). image_cell C S r.0 c r.1) (source_in C F c) (Value.Int (pos 0)) in
        let f : ℕ → Value = λ c. image_cell C S x.0 c x.1 in
        let n : ℕ = length C.columns in
        let v : Value = Value.Int (pos 0) in
        fill_by_all f (map read (numbers_below n)) n v (length-map-range_with_len read 0 n)
        (λ k h. get_or-map-range_with_len read 0 n k k v h (zero-add k) ∙ ap (λ (o : Option Reached). option_map_or (λ (r : Reached). image_cell C S r.0 k r.1) o v) (source_is k h))

  given_from : (fresh_only : Bool) → C.key < length C.columns → (x : Reached) → HasAll C x.0 → (F : Found) → found_from C L S x.0 x.1 ≡ Some F → given_row fresh_only C L S x ≡ Some (own_row x)
  given_from fresh_only keyed x all F e =
      let b : Begins x F = begins (length C.projections) (record { reached = x ∷ []; last = x ∷ []; marked = [] }) F x (record { rest = []; is = refl }) e in
      ap (λ (o : Option Found). option_and_then (if_given fresh_only C S) o) e
      ∙ ap (λ (given : Bool). cond given (Some (found_row C S F)) None) (own_given keyed x all F b fresh_only)
      ∙ ap (λ (r : Row). Some r) (own_found keyed x all F b)

  pub own_from : C.key < length C.columns → (x : Reached) → HasAll C x.0 → (F : Found) → found_from C L S x.0 x.1 ≡ Some F → fresh_row C L S x ≡ Some (own_row x)
  own_from = given_from true

  superprojection : (fresh_only : Bool) → C.key < length C.columns → (xs : List Reached) → All (λ (x : Reached). HasAll C x.0) xs → find (is_stray_row C L S) xs ≡ None → filter_map (given_row fresh_only C L S) xs ≡ map own_row xs
  superprojection fresh_only keyed [] all e = refl
  superprojection fresh_only keyed (x ∷ xs) all e = go (found_from C L S x.0 x.1) refl e (superprojection fresh_only keyed xs (All-tail (λ (y : Reached). HasAll C y.0) x xs all))
    where
      go : (o : Option Found) → found_from C L S x.0 x.1 ≡ o → cond (is_none o) (Some x) (find (is_stray_row C L S) xs) ≡ None → (find (is_stray_row C L S) xs ≡ None → filter_map (given_row fresh_only C L S) xs ≡ map own_row xs) → filter_map (given_row fresh_only C L S) (x ∷ xs) ≡ map own_row (x ∷ xs)
      go None f g later = absurd (none-some x (sym g))
      go (Some F) f g later = λ i. cons_option (given_from fresh_only keyed x (All-head (λ (y : Reached). HasAll C y.0) x xs all) F f i) (later g i)

  cells_of : (xs : List Reached) (c : ℕ) → c < length C.columns → map (λ (r : Row). cell r c) (map own_row xs) ≡ own_cells C S xs c
  cells_of [] c h = refl
  cells_of (x ∷ xs) c h = λ i. get_or-map-range_with_len (λ (d : ℕ). image_cell C S x.0 d x.1) 0 (length C.columns) c c (Value.Int (pos 0)) h (zero-add c) i ∷ cells_of xs c h i

  -- if the own cells of rows are appended to columns, the rows found from these are appended
  pub own_grow : (fresh_only : Bool) → C.key < length C.columns → (xs : List Reached) (before after : List Cells) → All (λ (x : Reached). HasAll C x.0) xs → find (is_stray_row C L S) xs ≡ None
      → ((c : ℕ) (d : Cells) → c < length C.columns → values (get_or after c d) ≡ values (get_or before c d) ++ own_cells C S xs c) → Grows C L S fresh_only xs before after
  own_grow fresh_only keyed xs before after all sound added rows are c d h =
      added c d h ∙ (λ i. are c d h i ++ sym (ap (map (λ (r : Row). cell r c)) (superprojection fresh_only keyed xs all sound) ∙ cells_of xs c h) i)
      ∙ sym (map_append (λ (r : Row). cell r c) rows (filter_map (given_row fresh_only C L S) xs))

-- the rows of a segment belong to its projection
pub all_of : (P : ℕ → Type 0) (p s start n : ℕ) → P p → All (λ (x : Reached). P x.0) (reached_from p s start n)
all_of P p s start n h k d l = subst (λ (x : Reached). P x.0) (sym (get_or-map-range_with_len (row_at p s) start n k (start + k) d (omega (arith, l, length-map-range_with_len (row_at p s) start n)) refl)) h

-- a part of an image's column is the cells of the rows there
pub part_of_column : (C : CatalogData) (S : Contents) (p s start stop c : ℕ) → start ≤ stop → stop ≤ length (S.image p s).pairs
    → take (stop - start) (drop start (image_column (S.image p s) (position_or_len (λ d. d == c) (projection C p).columns))) ≡ own_cells C S (reached_from p s start (stop - start)) c
part_of_column C S p s start stop c order within =
    let m : ImageData = S.image p s in
    let j : ℕ = position_or_len (λ d. d == c) (projection C p).columns in
    let column : List Value = image_column m j in
    let n : ℕ = stop - start in
    let f : ℕ → Value = λ k. image_cell C S p c (s, start + k) in
    let g : Reached → Value = λ x. image_cell C S x.0 c x.1 in
    let v : Value = Value.Int (pos 0) in
    let xs : List Reached = reached_from p s start n in
    let long : length column ≡ length m.pairs = length-map m.pairs (λ (x : Pair). cell x.1 j) in
    let many : length xs ≡ n = length-map-range_with_len (row_at p s) start n in
    fill_by_all f (take n (drop start column)) n v (length-take-le n (drop start column) (omega (arith, order, within, long, length-drop start column)))
    (λ k h. get_or-take n (drop start column) k v h ∙ get_or-drop start column k v ∙ column_cell m (start + k) j (omega (arith, h, within)))
    ∙ sym (fill_by_all f (map g xs) n v (length-map xs g ∙ many)
    (λ k h. get_or-map g xs k (p, (s, 0)) v (omega (arith, h, many)) ∙ ap g (get_or-map-range_with_len (row_at p s) start n k (start + k) (p, (s, 0)) h refl)))

-- the index of a column of the table in an image
module _ (C : CatalogData) (S : SurvivorsData) (p : ℕ) (all : HasAll C p) (c : ℕ) (h : c < length C.columns) where
  abbrev pub place : ℕ
  place = position_or_len (λ d. d == c) (projection C p).columns

  place_inside : place < length (projection C p).columns
  place_inside = (position_first (λ d. d == c) (projection C p).columns 0 (all_held C p all c h)).0

  pub own_column : (j s : ℕ) (m : KindedImage) → j ≡ place → image_at S p s ≡ Some m → m.kinds ≡ kinds_at C p
      → (j < length m.kinds) × (slice_index_or m.kinds j Kind.Int ≡ (column C c).kind) × (image_column m.image j ≡ image_column ((contents_of S).image p s) place)
  own_column j s m b e kinds =
      let n : ℕ = length (projection C p).columns in
      let first = position_first (λ d. d == c) (projection C p).columns 0 (all_held C p all c h) in
      let wide : length m.kinds ≡ n = ap length kinds ∙ length-map-range_with_len (kind_at C p) 0 n in (
        omega (arith, wide, b, place_inside),
        (λ i. slice_index_or (kinds i) (b i) Kind.Int) ∙ get_or-map-range_with_len (kind_at C p) 0 n place place Kind.Int place_inside (zero-add place) ∙ ap (λ (x : ℕ). (column C x).kind) (eqb-true _ c first.1),
        ap (image_column m.image) b ∙ ap (λ (o : Option KindedImage). image_column (held o) place) (sym e),
      )
