-- A row that an earlier walk finds by itself repeats that row, so the walk by rows may leave it out.
use Rattle.std.proofs.Common.{◌≡◌, ℕ, zero, suc, ◌+◌, ◌<◌, ◌≤◌, List, [], ◌∷◌, ◌++◌, refl, sym, ap, subst, ◌∙◌, arith, Bool, true, false, not, cond, ◌&&◌, ◌||◌, ◌⊎◌, inl, inr, Option, Some, None, length, append_assoc, true≢false}
use Rattle.std.specs.Prelude.{nat_lt, pos}
use Rattle.std.specs.List.{filter_map, flat_map, cons_option, find, list_any, range_with_len}
use Rattle.std.specs.Option.{is_none, option_and_then, option_map, option_map_or}
use Rattle.std.proofs.lemmas.Option.{none-some, same_Some}
use Rattle.std.proofs.lemmas.List.{append-nil}
use Rattle.std.proofs.lemmas.List.Elements.{filter_map-append}
use Rattle.std.proofs.lemmas.List.Folds.{list_any-append}
use Rattle.std.proofs.lemmas.List.FromFn.{get_or-map-range_with_len}
use borrow.Author.Tests.{ltb-true}
use Rattle.cs_schema.specs.declared.cells.Value.{Value}
use Rattle.cs_schema.specs.CatalogData.{CatalogData, segments}
use Rattle.cs_schema.specs.Lists.{IsIn, numbers_below}
use Rattle.cs_schema.specs.Losses.{Sites}
use Rattle.cs_schema.specs.Rows.{Row, cell}
use Rattle.cs_schema.specs.Values.{value_eq}
use Rattle.cs_safety.specs.Paths.{holds_column}
use Rattle.cs_rows.specs.Walk.{Contents, entry_of, image_cell}
use Rattle.cs_rows.specs.WalkByRows.{Reached, Found, numbers_of, found_from, source_in, is_full, found_row, full_row, level, is_stray_landing, surviving_rows, without_repeats}
use Rattle.cs_rows.specs.Superprojections.{has_all, HasAll, is_found_before}
use Rattle.cs_rows.specs.RangeByRows.{is_stray_row, row_from, fresh_row}
use Rattle.cs_rows.specs.RowSteps.{row_at, kept_count, kept_rows, projection_kept}
use Rattle.cs_rows.proofs.RepeatLemmas.{repeats_push}
use Rattle.cs_rows.proofs.EqualCells.{same_from_eq, eq_from_same}
use Rattle.cs_rows.proofs.RowLemmas.{some_any}
use Rattle.cs_rows.proofs.SurvivingRows.{surviving_are}
use Rattle.cs_rows.proofs.FoundRows.{if_fresh}
use Rattle.cs_rows.proofs.Superprojections.{Begins, begins, own_row, own_from}
use Rattle.cs_schema.proofs.Lists.{in_map, map_in, range_in, in_append, flat_more}
use Rattle.cs_recovery.proofs.RowLists.{filter_map_in, find_in}
use Rattle.cs_recovery.proofs.WalkedRows.{in_flat_map, flat_map_in}
use Rattle.cs_recovery.proofs.RowLevels.{IsKeptRow, in_rows, landing_kept, found_keeps, rows_at, next}
use Rattle.cs_safety.proofs.Bounded.{and_first, and_second}
use Rattle.cs_recovery.proofs.Judged.{all_fail}

-- ---- rows without some repeats

module _ (C : CatalogData) where
  -- some row has the key
  abbrev has_key : Value → List Row → Bool
  has_key v rows = list_any (λ (r : Row). value_eq (cell r C.key) v) rows

  -- the same rows except for repeats
  record Alike (all left : List Row) : Type 0 where
    pub rows : without_repeats C all ≡ without_repeats C left
    pub keys : (v : Value) → has_key v all ≡ has_key v left

  -- what one more start adds: the same row to both, or a repeat only to the first
  abbrev AddsRepeat : List Row → Option Row → Option Row → Type 0
  AddsRepeat left x y = (y ≡ x) ⊎ ((y ≡ None) × ((r : Row) → x ≡ Some r → has_key (cell r C.key) left ≡ true))

  or_none : (b : Bool) → (b || false) ≡ b
  or_none true = refl
  or_none false = refl

  key_more : (v : Value) (rows : List Row) (r : Row) → has_key v (rows ++ r ∷ []) ≡ (has_key v rows || value_eq (cell r C.key) v)
  key_more v rows r = list_any-append (λ (x : Row). value_eq (cell x C.key) v) rows (r ∷ []) ∙ ap (λ (b : Bool). has_key v rows || b) (or_none (value_eq (cell r C.key) v))

  both : (all left : List Row) → Alike all left → (r : Row) → Alike (all ++ r ∷ []) (left ++ r ∷ [])
  both all left a r = record {
    rows = repeats_push C all r ∙ (λ i. cond (a.keys (cell r C.key) i) (a.rows i) (a.rows i ++ r ∷ [])) ∙ sym (repeats_push C left r);
    keys = λ v. key_more v all r ∙ ap (λ (b : Bool). b || value_eq (cell r C.key) v) (a.keys v) ∙ sym (key_more v left r);
  }

  one_alone : (all left : List Row) → Alike all left → (r : Row) → has_key (cell r C.key) left ≡ true → Alike (all ++ r ∷ []) left
  one_alone all left a r h = record {
    rows = repeats_push C all r ∙ ap (λ (b : Bool). cond b (without_repeats C all) (without_repeats C all ++ r ∷ [])) (a.keys (cell r C.key) ∙ h) ∙ a.rows;
    keys = λ v. key_more v all r ∙ ap (λ (b : Bool). b || value_eq (cell r C.key) v) (a.keys v) ∙ there v (value_eq (cell r C.key) v) refl;
  }
    where
      there : (v : Value) (b : Bool) → value_eq (cell r C.key) v ≡ b → (has_key v left || b) ≡ has_key v left
      there v true e = let has : has_key v left ≡ true = subst (λ (w : Value). has_key w left ≡ true) (same_from_eq (cell r C.key) v e) h in ap (λ (b : Bool). b || true) has ∙ sym has
      there v false e = or_none (has_key v left)

  none_more : (all left : List Row) → Alike all left → Alike (all ++ []) (left ++ [])
  none_more all left a = let e = append-nil all in let f = append-nil left in subst (λ (l : List Row). Alike l (left ++ [])) (sym e) (subst (Alike all) (sym f) a)

  one_more : (all left : List Row) (x y : Option Row) → Alike all left → AddsRepeat left x y → Alike (all ++ cons_option x []) (left ++ cons_option y [])
  one_more all left None None a h = none_more all left a
  one_more all left None (Some s) a (inl e) = absurd (none-some s (sym e))
  one_more all left None (Some s) a (inr h) = absurd (none-some s (sym h.0))
  one_more all left (Some r) None a (inl e) = absurd (none-some r e)
  one_more all left (Some r) None a (inr h) = subst (Alike (all ++ r ∷ [])) (sym (append-nil left)) (one_alone all left a r (h.1 r refl))
  one_more all left (Some r) (Some s) a (inl e) = subst (λ (t : Row). Alike (all ++ r ∷ []) (left ++ t ∷ [])) (sym (same_Some s r e)) (both all left a r)
  one_more all left (Some r) (Some s) a (inr h) = absurd (none-some s (sym h.0))

-- ---- lists

-- a search by projection, among rows or among their projections
find_by_number : (p : ℕ → Bool) (rs : List Reached) → find p (numbers_of rs) ≡ option_map (λ (r : Reached). r.0) (find (λ (r : Reached). p r.0) rs)
find_by_number p [] = refl
find_by_number p (r ∷ rs) = go (p r.0) (find_by_number p rs)
  where
    go : (b : Bool) → find p (numbers_of rs) ≡ option_map (λ (x : Reached). x.0) (find (λ (x : Reached). p x.0) rs) → cond b (Some r.0) (find p (numbers_of rs)) ≡ option_map (λ (x : Reached). x.0) (cond b (Some r) (find (λ (x : Reached). p x.0) rs))
    go true e = refl
    go false e = e

module _ (C : CatalogData) (L : Sites) (S : Contents) (keyed : C.key < length C.columns) where
  abbrev all_of : List Reached → List Row
  all_of xs = filter_map (row_from C L S) xs

  abbrev left_of : List Reached → List Row
  left_of xs = filter_map (fresh_row C L S) xs

  -- ---- starts one by one

  abbrev AlikeOf : List Reached → Type 0
  AlikeOf xs = Alike C (all_of xs) (left_of xs)

  -- a start adds the same row to both, or, only to the first, a repeat of a row that other starts have left
  abbrev RepeatsAt : List Reached → Reached → Type 0
  RepeatsAt base x = AddsRepeat C (left_of base) (row_from C L S x) (fresh_row C L S x)

  one_start : (xs : List Reached) (x : Reached) → AlikeOf xs → RepeatsAt xs x → AlikeOf (xs ++ x ∷ [])
  one_start xs x a h =
      subst (λ (l : List Row). Alike C l (left_of (xs ++ x ∷ []))) (sym (filter_map-append (row_from C L S) xs (x ∷ [])))
      (subst (Alike C (all_of xs ++ all_of (x ∷ []))) (sym (filter_map-append (fresh_row C L S) xs (x ∷ []))) (one_more C (all_of xs) (left_of xs) (row_from C L S x) (fresh_row C L S x) a h))

  still : (base more : List Reached) (x : Reached) → RepeatsAt base x → RepeatsAt (base ++ more) x
  still base more x (inl e) = inl e
  still base more x (inr h) = inr (
    h.0,
    λ r e.
        let test : Row → Bool = λ y. value_eq (cell y C.key) (cell r C.key) in
        ap (list_any test) (filter_map-append (fresh_row C L S) base more) ∙ list_any-append test (left_of base) (left_of more) ∙ ap (λ (b : Bool). b || list_any test (left_of more)) (h.1 r e),
  )

  run : (base done ys : List Reached) → AlikeOf (base ++ done) → ((x : Reached) → IsIn x ys → RepeatsAt base x) → AlikeOf (base ++ (done ++ ys))
  run base done [] a h = subst (λ (l : List Reached). AlikeOf (base ++ l)) (sym (append-nil done)) a
  run base done (y ∷ ys) a h =
      subst (λ (l : List Reached). AlikeOf (base ++ l)) (append_assoc done (y ∷ []) ys)
      (run base (done ++ y ∷ []) ys (subst AlikeOf (append_assoc base done (y ∷ [])) (one_start (base ++ done) y a (still base done y (h y (inl refl))))) (λ x i. h x (inr i)))

  -- the surviving rows of the projections before one
  abbrev before : ℕ → List Reached
  before n = flat_map (projection_kept C L S) (numbers_below n)

  in_turn : ((p : ℕ) → p < length C.projections → (x : Reached) → IsIn x (projection_kept C L S p) → RepeatsAt (before p) x) → (n : ℕ) → n ≤ length C.projections → AlikeOf (before n)
  in_turn h zero l = record { rows = refl; keys = λ v. refl }
  in_turn h (suc n) l =
      let s : suc n ≡ n + 1 = omega arith in
      let z : 0 + n ≡ n = omega arith in
      subst AlikeOf (sym (ap before s ∙ flat_more (projection_kept C L S) 0 n ∙ ap (λ (k : ℕ). before n ++ projection_kept C L S k) z))
      (run (before n) [] (projection_kept C L S n) (subst AlikeOf (sym (append-nil (before n))) (in_turn h n (omega arith))) (h n (omega arith)))

  -- ---- what a walk reaches

  kept_in : (y : Reached) → IsKeptRow C L S y.0 y.1 → IsIn y (projection_kept C L S y.0)
  kept_in y k =
      let q : ℕ = y.0 in
      let s : ℕ = y.1.0 in
      let count : kept_count C L S q s ≡ length (S.image q s).pairs = ap (λ (b : Bool). cond b 0 (length (S.image q s).pairs)) k.kept in
      flat_map_in (kept_rows C L S q) (numbers_below (segments C q)) s y (range_in 0 (segments C q) s (omega arith) (omega (arith, k.segment)))
      (map_in (row_at q s) (range_with_len 0 (kept_count C L S q s)) y.1.1 (range_in 0 (kept_count C L S q s) y.1.1 (omega arith) (omega (arith, count, k.position))))

  of_projection : (p : ℕ) (x : Reached) → IsIn x (projection_kept C L S p) → x.0 ≡ p
  of_projection p x h =
      let s = in_flat_map (kept_rows C L S p) (numbers_below (segments C p)) x h in
      let i = in_map (row_at p s.0) (range_with_len 0 (kept_count C L S p s.0)) x s.2 in
      ap (λ (r : Reached). r.0) i.2

  abbrev AreKept : Reached → Found → Type 0
  AreKept x F = (y : Reached) → IsIn y F.reached → (y ≡ x) ⊎ IsKeptRow C L S y.0 y.1

  kept_level : (x : Reached) (F : Found) → AreKept x F → list_any is_stray_landing (level C L S F) ≡ false → AreKept x (next C L S F)
  kept_level x F k sound y i =
      elim (in_append F.reached (rows_at C L S F) y i) [
        | inl a ↦ k y a
        | inr b ↦ let r = in_rows C L S F y b in inr (landing_kept C L S y.0 r.0 (entry_of S r.1.from.0 y.0 r.1.from.1) y.1 r.1.is)
      ]

  reached_kept : (x : Reached) (F : Found) → found_from C L S x.0 x.1 ≡ Some F → AreKept x F
  reached_kept x F e = found_keeps C L S (AreKept x) (kept_level x) (length C.projections) (record { reached = x ∷ []; last = x ∷ []; marked = [] }) F alone e
    where
      alone : (y : Reached) → IsIn y (x ∷ []) → (y ≡ x) ⊎ IsKeptRow C L S y.0 y.1
      alone y (inl a) = inl a
      alone y (inr b) = absurd b

  -- the row of an earlier superprojection at which the key is read
  record ReadBefore (x : Reached) (F : Found) : Type 0 where
    pub at : Reached
    pub source : source_in C F C.key ≡ Some at
    pub less : at.0 < x.0
    pub all : HasAll C at.0

  read_before : (x : Reached) (F : Found) → found_from C L S x.0 x.1 ≡ Some F → is_found_before C (numbers_of F.reached) ≡ true → ReadBefore x F
  read_before x F e h = go (source_in C F C.key) refl (sym (ap later (find_by_number (λ q. holds_column C q C.key) F.reached)) ∙ sym first ∙ h)
    where
      later : Option ℕ → Bool
      later o = option_map_or (λ q. nat_lt q x.0 && has_all C q) o false

      start : Begins C L S x F
      start = begins C L S (length C.projections) (record { reached = x ∷ []; last = x ∷ []; marked = [] }) F x (record { rest = []; is = refl }) e

      first : is_found_before C (numbers_of F.reached) ≡ later (find (λ q. holds_column C q C.key) (numbers_of F.reached))
      first = let is = start.is in ap (λ (l : List Reached). is_found_before C (numbers_of l)) is ∙ sym (ap (λ (l : List Reached). later (find (λ q. holds_column C q C.key) (numbers_of l))) is)

      go : (o : Option Reached) → source_in C F C.key ≡ o → later (option_map (λ (r : Reached). r.0) (source_in C F C.key)) ≡ true → ReadBefore x F
      go None f g = absurd (true≢false (sym g ∙ ap (λ (o : Option Reached). later (option_map (λ (r : Reached). r.0) o)) f))
      go (Some y) f g =
          let is : (nat_lt y.0 x.0 && has_all C y.0) ≡ true = sym (ap (λ (o : Option Reached). later (option_map (λ (r : Reached). r.0) o)) f) ∙ g in
          record { at = y; source = f; less = ltb-true y.0 x.0 (and_first (nat_lt y.0 x.0) (has_all C y.0) is); all = and_second (nat_lt y.0 x.0) (has_all C y.0) is }

  -- ---- keys

  found_key : (F : Found) (y : Reached) → source_in C F C.key ≡ Some y → cell (found_row C S F) C.key ≡ image_cell C S y.0 C.key y.1
  found_key F y e =
      let read : Option Reached → Value = λ o. option_map_or (λ (r : Reached). image_cell C S r.0 C.key r.1) o (Value.Int (pos 0)) in
      get_or-map-range_with_len (λ (c : ℕ). option_map_or (λ (r : Reached). image_cell C S r.0 c r.1) (source_in C F c) (Value.Int (pos 0))) 0 (length C.columns) C.key C.key (Value.Int (pos 0)) keyed (omega arith) ∙ ap read e

  own_key : (y : Reached) → cell (own_row C L S y) C.key ≡ image_cell C S y.0 C.key y.1
  own_key y = get_or-map-range_with_len (λ (c : ℕ). image_cell C S y.0 c y.1) 0 (length C.columns) C.key C.key (Value.Int (pos 0)) keyed (omega arith)

  -- ---- all surviving rows

  module _ (sound : find (is_stray_row C L S) (surviving_rows C L S) ≡ None) where
    found_own : (y : Reached) → IsKeptRow C L S y.0 y.1 → HasAll C y.0 → fresh_row C L S y ≡ Some (own_row C L S y)
    found_own y k all = go (found_from C L S y.0 y.1) refl
      where
        survives : IsIn y (surviving_rows C L S)
        survives = subst (IsIn y) (sym (surviving_are C L S)) (flat_map_in (projection_kept C L S) (numbers_below (length C.projections)) y.0 y (range_in 0 (length C.projections) y.0 (omega arith) (omega (arith, k.exists))) (kept_in y k))

        go : (o : Option Found) → found_from C L S y.0 y.1 ≡ o → fresh_row C L S y ≡ Some (own_row C L S y)
        go None e = absurd (true≢false (sym (ap is_none e) ∙ all_fail (is_stray_row C L S) (surviving_rows C L S) sound y survives))
        go (Some F) e = own_from C L S keyed y all F e

    left_before : (p : ℕ) (x : Reached) → IsIn x (projection_kept C L S p) → (F : Found) → found_from C L S x.0 x.1 ≡ Some F → is_found_before C (numbers_of F.reached) ≡ true → has_key C (cell (found_row C S F) C.key) (left_of (before p)) ≡ true
    left_before p x i F e h =
        let r = read_before x F e h in
        let y : Reached = r.at in
        elim (reached_kept x F e y (find_in (λ (z : Reached). holds_column C z.0 C.key) F.reached y r.source).0) [
          | inl a ↦ absurd (omega (arith, r.less, ap (λ (z : Reached). z.0) a))
          | inr k ↦
              some_any (λ (row : Row). value_eq (cell row C.key) (cell (found_row C S F) C.key)) (left_of (before p)) (own_row C L S y)
              (filter_map_in (fresh_row C L S) (before p) y (own_row C L S y)
              (flat_map_in (projection_kept C L S) (numbers_below p) y.0 y (range_in 0 p y.0 (omega arith) (omega (arith, r.less, of_projection p x i))) (kept_in y k))
              (found_own y k r.all))
              (eq_from_same (cell (own_row C L S y) C.key) (cell (found_row C S F) C.key) (own_key y ∙ sym (found_key F y r.source)))
        ]

    repeats_at : (p : ℕ) (x : Reached) → IsIn x (projection_kept C L S p) → RepeatsAt (before p) x
    repeats_at p x i = go (found_from C L S x.0 x.1) refl
      where
        by_tests : (F : Found) → found_from C L S x.0 x.1 ≡ Some F → (full early : Bool) → is_full C F ≡ full → is_found_before C (numbers_of F.reached) ≡ early → RepeatsAt (before p) x
        by_tests F e full early f b =
            let all : row_from C L S x ≡ cond full (Some (found_row C S F)) None = ap (option_and_then (full_row C S)) e ∙ ap (λ (t : Bool). cond t (Some (found_row C S F)) None) f in
            let left : fresh_row C L S x ≡ cond (full && not early) (Some (found_row C S F)) None = ap (option_and_then (if_fresh C S)) e ∙ (λ j. cond (f j && not (b j)) (Some (found_row C S F)) None) in
            by_values full early all left (left_before p x i F e) b
          where
            by_values : (full early : Bool) → row_from C L S x ≡ cond full (Some (found_row C S F)) None → fresh_row C L S x ≡ cond (full && not early) (Some (found_row C S F)) None → (is_found_before C (numbers_of F.reached) ≡ true → has_key C (cell (found_row C S F) C.key) (left_of (before p)) ≡ true) → is_found_before C (numbers_of F.reached) ≡ early → RepeatsAt (before p) x
            by_values false early all left has b = inl (left ∙ sym all)
            by_values true false all left has b = inl (left ∙ sym all)
            by_values true true all left has b = inr (left, λ r e. subst (λ (row : Row). has_key C (cell row C.key) (left_of (before p)) ≡ true) (same_Some (found_row C S F) r (sym all ∙ e)) (has b))

        go : (o : Option Found) → found_from C L S x.0 x.1 ≡ o → RepeatsAt (before p) x
        go None e = inl (ap (option_and_then (if_fresh C S)) e ∙ sym (ap (option_and_then (full_row C S)) e))
        go (Some F) e = by_tests F e (is_full C F) (is_found_before C (numbers_of F.reached)) refl refl

    -- without later repeats, all full rows are those that no earlier walk finds
    pub fresh_rows_alike : without_repeats C (all_of (surviving_rows C L S)) ≡ without_repeats C (left_of (surviving_rows C L S))
    fresh_rows_alike = (subst AlikeOf (sym (surviving_are C L S)) (in_turn (λ p h x i. repeats_at p x i) (length C.projections) (omega arith))).rows
