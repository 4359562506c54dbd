-- A segment that is written anew: its columns fit, and its image has the keys 1, 2, 3, ..
use Rattle.std.proofs.Common.{◌≡◌, ℕ, zero, suc, ◌+◌, ◌-◌, ◌<◌, ◌≤◌, List, [], ◌∷◌, ◌++◌, map, refl, sym, ap, subst, ◌∙◌, true, false, ◌||◌, inl, inr, Some, length, get_or, arith, ◌==◌, eq-eqb, pos, Ordering}
use Rattle.std.specs.Prelude.{slice_index, ◌≤ℤ◌}
use Rattle.std.specs.List.{slice_get, range_with_len, enumerate_from, IsDistinct}
use Rattle.std.specs.List.Sorted.{IsStrictlySortedBy}
use Rattle.std.specs.Ordering.{ordering_then, int_cmp}
use Rattle.std.specs.Cmp.{int_ranked}
use Rattle.std.specs.Cmp.Lexicographic.{slice_cmp}
use Rattle.std.specs.declared.cmp.Ordering.TheVariants.{Less, Equal, Greater}
use Rattle.std.proofs.lemmas.Option.{none-some, same_Some, slice_get-get_or, get_or_from_slice_get}
use Rattle.std.proofs.lemmas.List.FromFn.{get_or-map-range_with_len, length-map-range_with_len, fill_by_all, length-enumerate_from, get_or-enumerate_from}
use Rattle.std.proofs.Math.ListN.{length-map}
use Rattle.std.proofs.lemmas.Int.{ints}
use Rattle.cs_schema.specs.declared.kinds.Kind.{Kind}
use Rattle.cs_schema.specs.declared.kinds.Code.{Code}
use Rattle.cs_schema.specs.declared.cells.Value.{Value}
use Rattle.cs_schema.specs.CatalogData.{CatalogData, HasSegment, projection, column}
use Rattle.cs_schema.specs.CatalogRules.{IsCatalog}
use Rattle.cs_schema.specs.Rows.{Row, IsTable, project, cell, row_cmp}
use Rattle.cs_schema.specs.Lists.{IsIn, member}
use Rattle.cs_schema.specs.Values.{IsOfKind, value_cmp}
use Rattle.cs_schema.specs.Order.{rows_of, Fits, row_limit}
use Rattle.cs_codec.specs.ColumnText.{FitsColumn, FitsCode, int_of}
use Rattle.cs_codec.specs.Texts.{NeverFalls, NeverFallsFrom}
use Rattle.cs_segment.specs.SegmentFile.{IsBase, base_row, base_column, base_of}
use Rattle.cs_schema.specs.CatalogData.{code_at, kind_at}
use Rattle.cs_delta.specs.Image.{Pair, applied_from, base_pairs, fresh_image}
use Rattle.cs_delta.specs.DeltaFile.{IsDelta, merged, no_changes}
use Rattle.cs_schema.proofs.Ascending.{All-in}
use Rattle.cs_schema.proofs.RowOrder.{rows_of-are}
use Rattle.cs_schema.proofs.Lists.{in_at, in_map, slice_get_map}

-- ---- the first sort column never decreases

neighbours : {X : Type 0} (cmp : X → X → Ordering) (xs : List X) → IsStrictlySortedBy cmp xs → (i : ℕ) (x y : X) → slice_get xs i ≡ Some x → slice_get xs (suc i) ≡ Some y → cmp x y ≡ Less
unfolding IsStrictlySortedBy
neighbours cmp [] s i x y a b = absurd (none-some x a)
neighbours cmp (z ∷ zs) s zero x y a b = subst (λ w. cmp w y ≡ Less) (same_Some z x a) (All-in (λ w. cmp z w ≡ Less) zs s.0 y (in_at zs 0 y b))
neighbours cmp (z ∷ zs) s (suc i) x y a b = neighbours cmp zs s.1 i x y a b

abbrev NotAbove : Ordering → Type 0
NotAbove Less = Unit {0}
NotAbove Equal = Unit {0}
NotAbove Greater = ⊥

abbrev IsLess : Ordering → Type 0
IsLess Less = Unit {0}
IsLess Equal = ⊥
IsLess Greater = ⊥

first_not_above : (o p : Ordering) → ordering_then o p ≡ Less → NotAbove o
first_not_above Less p e = tt
first_not_above Equal p e = tt
first_not_above Greater p e = absurd (subst IsLess (sym e) tt)

leading : (r r' : Row) (sort : List ℕ) (k k' : List Value) → 0 < length sort → slice_cmp value_cmp (map (cell r) sort ++ k) (map (cell r') sort ++ k') ≡ Less → NotAbove (value_cmp (cell r (slice_index sort 0)) (cell r' (slice_index sort 0)))
leading r r' [] k k' h e = absurd (omega arith)
leading r r' (c ∷ cs) k k' h e = first_not_above (value_cmp (cell r c) (cell r' c)) (slice_cmp value_cmp (map (cell r) cs ++ k) (map (cell r') cs ++ k')) e

ints_in_order : (v w : Value) → IsOfKind Kind.Int v → IsOfKind Kind.Int w → NotAbove (value_cmp v w) → int_of v ≤ℤ int_of w
ints_in_order (Value.Int x) (Value.Int y) a b h = go (int_cmp x y) refl h
  where
    go : (o : Ordering) → o ≡ int_cmp x y → NotAbove o → x ≤ℤ y
    go Less e n = let l = int_ranked x y Less e in omega (arith, ints, l)
    go Equal e n = let l = int_ranked x y Equal e in omega (arith, ints, l)
    go Greater e n = absurd n
ints_in_order (Value.Int x) (Value.Text y) a b h = absurd b
ints_in_order (Value.Text x) w a b h = absurd a

abbrev IsInt : Kind → Type 0
IsInt Kind.Int = Unit {0}
IsInt Kind.Text = ⊥

-- no int is less than the one before it, by index
abbrev pub FallsNowhere : List Value → Type 0
FallsNowhere v = (i : ℕ) → i + 1 < length v → int_of (cell v i) ≤ℤ int_of (cell v (i + 1))

falls_from : (x : Value) (xs : List Value) → FallsNowhere (x ∷ xs) → NeverFallsFrom (int_of x) (map int_of xs)
falls_from x [] f = tt
falls_from x (y ∷ ys) f = (f 0 (omega arith), falls_from y ys (λ i l. step i (f (suc i) (omega arith))))
  where
    step : (i : ℕ) → int_of (cell (y ∷ ys) i) ≤ℤ int_of (cell (x ∷ y ∷ ys) (suc i + 1)) → int_of (cell (y ∷ ys) i) ≤ℤ int_of (cell (y ∷ ys) (i + 1))
    step i h =
        let P : ℕ → Type 0 = λ n. int_of (cell (y ∷ ys) i) ≤ℤ int_of (cell (x ∷ y ∷ ys) n) in
        let e : suc i + 1 ≡ suc (i + 1) = omega arith in
        subst P e h

falls_nowhere : (v : List Value) → FallsNowhere v → NeverFalls (map int_of v)
falls_nowhere [] f = tt
falls_nowhere (x ∷ xs) f = falls_from x xs f

pub fits_code : (code : Code) (kind : Kind) (v : List Value) → (code ≡ Code.Differences → (kind ≡ Kind.Int) × FallsNowhere v) → FitsCode code kind v
fits_code Code.Runs kind v f = tt
fits_code Code.Bitmaps kind v f = tt
fits_code Code.Plain kind v f = tt
fits_code Code.Differences Kind.Int v f = falls_nowhere v (f refl).1
fits_code Code.Differences Kind.Text v f = absurd (subst IsInt (sym (f refl).0) tt)

pub distinct_none : IsDistinct ◌==◌ []
unfolding IsDistinct
distinct_none = tt

-- ---- a segment written anew

module _ (C : CatalogData) (cat : IsCatalog C) (T : List Row) (t : IsTable C T) (fits : Fits C T) (p s : ℕ) (hs : HasSegment C p s) where
  abbrev pub rows : List Row
  rows = rows_of C T p s

  abbrev pub projected : List (List Value)
  projected = map (project C p) (rows_of C T p s)

  abbrev pub columns : List ℕ
  columns = (projection C p).columns

  abbrev pub values : ℕ → List Value
  values j = map (λ x. cell x j) (map (project C p) (rows_of C T p s))

  in_table : (r : Row) → IsIn r rows → IsIn r T
  in_table r h = (((rows_of-are C T t p s).members r).0 h).0

  projected_cell : (r : Row) (j : ℕ) → j < length columns → cell (project C p r) j ≡ cell r (slice_index columns j)
  projected_cell r j h = get_or_from_slice_get (project C p r) j (cell r (slice_index columns j)) (Value.Int (pos 0)) (slice_get_map (cell r) columns j (slice_index columns j) (slice_get-get_or columns j 0 h))

  column_exists : (j : ℕ) → j < length columns → slice_index columns j < length C.columns
  column_exists j h = (cat.projections p hs.0).columns (slice_index columns j) (in_member columns (slice_index columns j) (in_at columns j (slice_index columns j) (slice_get-get_or columns j 0 h)))
    where
      in_member : (xs : List ℕ) (x : ℕ) → IsIn x xs → member xs x ≡ true
      in_member [] x k = absurd k
      in_member (y ∷ xs) x (inl e) = ap (λ b. b || member xs x) (eq-eqb y x (sym e))
      in_member (y ∷ xs) x (inr k) = elim (y == x) as (λ b. (b || member xs x) ≡ true) [ true ↦ refl | false ↦ in_member xs x k ]

  row_kind : (r : Row) → IsIn r rows → (j : ℕ) → j < length columns → IsOfKind (kind_at C p j) (cell (project C p r) j)
  row_kind r h j l = subst (IsOfKind (kind_at C p j)) (sym (projected_cell r j l)) ((t.rows r (in_table r h)).1 (slice_index columns j) (column_exists j l))

  pub column_is : (j : ℕ) → j < length columns → base_column (base_of C p projected) j ≡ values j
  column_is j h = get_or-map-range_with_len (λ i. map (λ x. cell x i) projected) 0 (length columns) j j [] h (omega arith)

  pub count_is : length projected ≡ length rows
  count_is = simp length-map

  pub values_count : (j : ℕ) → length (values j) ≡ length rows
  values_count j = simp length-map

  value_at : (i j : ℕ) → i < length rows → j < length columns → cell (values j) i ≡ cell (get_or rows i []) (slice_index columns j)
  value_at i j h l =
      let r : Row = get_or rows i [] in
      let a : slice_get rows i ≡ Some r = slice_get-get_or rows i [] h in
      let b : slice_get (values j) i ≡ Some (cell (project C p r) j) = slice_get_map (λ x. cell x j) projected i (project C p r) (slice_get_map (project C p) rows i r a) in
      get_or_from_slice_get (values j) i (cell (project C p r) j) (Value.Int (pos 0)) b ∙ projected_cell r j l

  pub never_falls : (j : ℕ) → j < length columns → code_at C p j ≡ Code.Differences → (kind_at C p j ≡ Kind.Int) × FallsNowhere (values j)
  never_falls j h e =
      let P = cat.projections p hs.0 in
      let d = P.differences j h e in
      let c : ℕ = slice_index (projection C p).sort 0 in
      let kind : kind_at C p j ≡ Kind.Int = ap (λ x. (column C x).kind) d.0 ∙ d.1 in (
        kind,
        λ i l.
            let n : i + 1 < length rows = subst (λ m. i + 1 < m) (values_count j) l in
            let x : Row = get_or rows i [] in
            let y : Row = get_or rows (i + 1) [] in
            let ax : slice_get rows i ≡ Some x = slice_get-get_or rows i [] (omega arith) in
            let ay : slice_get rows (i + 1) ≡ Some y = slice_get-get_or rows (i + 1) [] n in
            let step : suc i ≡ i + 1 = omega arith in
            let less : row_cmp C p x y ≡ Less = neighbours (row_cmp C p) rows (rows_of-are C T t p s).in_order i x y ax (ap (slice_get rows) step ∙ ay) in
            let above = leading x y (projection C p).sort (cell x C.key ∷ []) (cell y C.key ∷ []) P.some_sort less in
            let exists : c < length C.columns = subst (λ w. w < length C.columns) d.0 (column_exists j h) in
            let kx : IsOfKind Kind.Int (cell x c) = subst (λ k. IsOfKind k (cell x c)) d.1 ((t.rows x (in_table x (in_at rows i x ax))).1 c exists) in
            let ky : IsOfKind Kind.Int (cell y c) = subst (λ k. IsOfKind k (cell y c)) d.1 ((t.rows y (in_table y (in_at rows (i + 1) y ay))).1 c exists) in
            let vx : cell (values j) i ≡ cell x c = value_at i j (omega arith) h ∙ ap (cell x) d.0 in
            let vy : cell (values j) (i + 1) ≡ cell y c = value_at (i + 1) j n h ∙ ap (cell y) d.0 in
            subst (λ w. int_of w ≤ℤ int_of (cell (values j) (i + 1))) (sym vx) (subst (λ w. int_of (cell x c) ≤ℤ int_of w) (sym vy) (ints_in_order (cell x c) (cell y c) kx ky above)),
      )

  pub values_fit : (j : ℕ) → j < length columns → FitsColumn (code_at C p j) (kind_at C p j) (values j)
  values_fit j h = record {
    count = subst (λ n. n ≤ row_limit) (sym (values_count j)) (fits p s hs);
    cells = λ x i.
        let a = in_map (λ y. cell y j) projected x i in
        let b = in_map (project C p) rows a.0 a.1 in
        subst (IsOfKind (kind_at C p j)) (sym (a.2 ∙ ap (λ w. cell w j) b.2)) (row_kind b.0 b.1 j h);
    order = fits_code (code_at C p j) (kind_at C p j) (values j) (never_falls j h);
  }

  pub base_is : IsBase C p (base_of C p projected)
  base_is =
      let w : length (base_of C p projected).columns ≡ length columns = length-map-range_with_len (λ j. map (λ x. cell x j) projected) 0 (length columns) in
      record {
        count = subst (λ n. n ≤ row_limit) (sym count_is) (fits p s hs);
        width = w;
        lengths = λ j h. let l : j < length columns = subst (λ n. j < n) w h in ap length (column_is j l) ∙ values_count j ∙ sym count_is;
        columns = λ j h. let l : j < length columns = subst (λ n. j < n) w h in subst (FitsColumn (code_at C p j) (kind_at C p j)) (sym (column_is j l)) (values_fit j l);
      }

  -- without changes its image has the keys 1, 2, 3, ..
  no_changes_applied : (i : ℕ) (xs : List Pair) → applied_from [] i xs ≡ xs
  no_changes_applied i [] = refl
  no_changes_applied i (x ∷ xs) = ap (λ l. x ∷ l) (no_changes_applied (i + 1) xs)

  row_back : (i : ℕ) → i < length rows → base_row (base_of C p projected) i ≡ get_or projected i []
  row_back i h =
      let r : Row = get_or rows i [] in
      let at : slice_get projected i ≡ Some (project C p r) = slice_get_map (project C p) rows i r (slice_get-get_or rows i [] h) in
      let x : get_or projected i [] ≡ project C p r = get_or_from_slice_get projected i (project C p r) [] at in
      let f : ℕ → Value = λ j. cell (values j) i in
      let made : project C p r ≡ map f (range_with_len 0 (length columns)) = fill_by_all f (project C p r) (length columns) (Value.Int (pos 0)) (length-map columns (cell r)) (λ j l. projected_cell r j l ∙ sym (value_at i j h l)) in
      map-map (λ v. cell v i) (λ j. map (λ x. cell x j) projected) (range_with_len 0 (length columns)) ∙ sym made ∙ sym x
    where
      map-map : {A B D : Type 0} (f : B → D) (g : A → B) (xs : List A) → map f (map g xs) ≡ map (λ x. f (g x)) xs
      map-map f g [] = refl
      map-map f g (y ∷ ys) = ap (λ l. f (g y) ∷ l) (map-map f g ys)

  fresh_pairs : enumerate_from 1 projected ≡ base_pairs (base_of C p projected)
  fresh_pairs = fill_by_all (λ i. (i + 1, base_row (base_of C p projected) i)) (enumerate_from 1 projected) (length projected) (0, []) (length-enumerate_from 1 projected) (λ i h.
      let l : i < length rows = subst (λ n. i < n) count_is h in
      let n : 1 + i ≡ i + 1 = omega arith in
      get_or-enumerate_from 1 projected i (0, []) h ∙ (λ k. (n k, sym (row_back i l) k)))

  pub fresh_merged : fresh_image projected ≡ merged (base_of C p projected) (no_changes p s (length rows))
  fresh_merged = λ i. record { pairs = (fresh_pairs ∙ sym (no_changes_applied 0 (base_pairs (base_of C p projected)))) i; top = count_is i }

  pub no_changes_are : IsDelta C p (no_changes p s (length rows))
  no_changes_are = record {
    version = inl (refl, refl);
    count = fits p s hs;
    least_top = omega arith;
    top_limit = (let l = fits p s hs in omega (arith, l));
    layers = (record { number = Rattle.std.proofs.Common.lit< tt; below = (let l = fits p s hs in omega (arith, l)); items = λ c i. absurd i; order = λ k d h. absurd (omega arith) }, tt);
    keys = distinct_none;
  }

-- ---- the files
