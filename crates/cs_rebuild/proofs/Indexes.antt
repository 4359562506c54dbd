-- The indices of rows in the segments of a table, and the keys that the rows have there after a recovery.
use Rattle.std.proofs.Common.{◌≡◌, ◌≢◌, ℕ, ◌+◌, ◌-◌, ◌<◌, ◌≤◌, List, [], ◌∷◌, map, length, refl, sym, ap, ◌∙◌, Bool, true, false, cond, Some, None, arith, ◌==◌, eqb-true, eq-eqb, get_or}
use Rattle.std.specs.Prelude.{nat_lt, slice_index}
use Rattle.std.specs.List.{filter, slice_get, position, position_or_len, enumerate_from, range_with_len}
use Rattle.std.specs.Option.{option_map_or, option_and_then}
use Rattle.std.specs.Cmp.{Equal-is, tied_itself}
use Rattle.std.proofs.lemmas.Option.{slice_get_within, get_or_from_slice_get}
use Rattle.std.proofs.lemmas.List.FromFn.{get_or-range_with_len, length-range_with_len}
use Rattle.std.proofs.lemmas.List.Sums.{position_or_len_is}
use Rattle.std.proofs.lemmas.Map.Keys.{Less-from_sorted}
use borrow.Author.Tests.{ltb-true, lt-ltb}
use Rattle.cs_schema.specs.CatalogData.{CatalogData}
use Rattle.cs_schema.specs.Lists.{IsIn}
use Rattle.cs_schema.specs.Losses.{Sites, lost}
use Rattle.cs_schema.specs.Order.{rows_of, index_of, is_row}
use Rattle.cs_schema.specs.Rows.{Row, key_cmp, project, row_cmp, segment_of_row}
use Rattle.cs_schema.proofs.Ascending.{false≢true, less≢equal, ascending_sorted, in_ascending, in_filter}
use Rattle.cs_schema.proofs.Lists.{in_at, found_first, position_first}
use Rattle.cs_schema.proofs.RowOrder.{key_total, row_total, tied_same}
use Rattle.cs_delta.specs.Image.{image_keys, position_of_key, fresh_image}
use Rattle.cs_jix.specs.JoinIndex.{no_place}
use Rattle.cs_rows.specs.Walk.{Contents}
use Rattle.cs_order.specs.Tables.{table_of}
use Rattle.cs_recovery.specs.Places.{image_after, place_of, entry_for}
use Rattle.cs_rebuild.proofs.Numbers.{by_equal, differ}

-- ---- the index of a row

-- a row occurs once in a strictly ascending list
one_place : {X : Type 0} (cmp : X → X → Rattle.std.specs.declared.cmp.Ordering.Ordering) (total : Rattle.std.specs.Cmp.IsTotalOrder cmp) (xs : List X) → Rattle.std.specs.List.Sorted.IsStrictlySortedBy cmp xs → (x : X) (i j : ℕ)
    → slice_get xs i ≡ Some x → slice_get xs j ≡ Some x → i ≡ j
one_place cmp total xs sorted x i j a b =
    by_equal i j (λ e. e) (λ n. by_less (nat_lt i j) refl n)
  where
    tie : (k l : ℕ) → slice_get xs k ≡ Some x → slice_get xs l ≡ Some x → k < l → ⊥
    tie k l c d less =
        let first : get_or xs k x ≡ x = get_or_from_slice_get xs k x x c in
        let second : get_or xs l x ≡ x = get_or_from_slice_get xs l x x d in
        let low = Less-from_sorted cmp xs k l x sorted less (slice_get_within xs l x d) in
        less≢equal (sym (ap (λ y. cmp y x) (sym first) ∙ ap (λ y. cmp (get_or xs k x) y) (sym second) ∙ low) ∙ tied_itself total x)

    by_less : (t : Bool) → nat_lt i j ≡ t → i ≢ j → i ≡ j
    by_less true e n = absurd (tie i j a b (ltb-true i j e))
    by_less false e n = absurd (tie j i b a (let l : i < j → ⊥ = λ k. false≢true (sym e ∙ lt-ltb i j k) in omega arith))

module _ (C : CatalogData) (walked : List Row) where
  abbrev T : List Row
  T = table_of C walked

  pub in_segment : (q u : ℕ) (r : Row) → IsIn r (rows_of C T q u) → IsIn r T × (segment_of_row C q r ≡ u)
  in_segment q u r h =
      let f = in_filter (λ x. segment_of_row C q x == u) T r (in_ascending (row_cmp C q) (row_total C q) (filter (λ x. segment_of_row C q x == u) T) r h) in
      (f.0, eqb-true (segment_of_row C q r) u f.1)

  -- the row at an index of a segment is in the segment's range, and has this index
  pub index_there : (q u i : ℕ) (r : Row) → slice_get (rows_of C T q u) i ≡ Some r → (segment_of_row C q r ≡ u) × (index_of C T q r ≡ Some i)
  index_there q u i r at =
      let xs : List Row = rows_of C T q u in
      let there = in_segment q u r (in_at xs i r at) in
      let self : is_row C r r ≡ true = (Equal-is (key_cmp C r r)).1 (tied_itself (key_total C) r) in
      let f = found_first (is_row C r) xs r (in_at xs i r at) self in
      let item = in_segment q u f.item (in_at xs (position_or_len (is_row C r) xs) f.item f.at) in
      let same : r ≡ f.item = tied_same (key_cmp C) (key_total C) T (ascending_sorted (key_cmp C) (key_total C) walked) r f.item there.0 item.0 ((Equal-is (key_cmp C r f.item)).0 f.passes) in
      let place : position_or_len (is_row C r) xs ≡ i =
      one_place (row_cmp C q) (row_total C q) xs (ascending_sorted (row_cmp C q) (row_total C q) (filter (λ x. segment_of_row C q x == u) T)) r (position_or_len (is_row C r) xs) i (f.at ∙ ap Some (sym same)) at in
      (there.1, ap (λ s. position (is_row C r) (rows_of C T q s)) there.1 ∙ position_first (is_row C r) xs f.below ∙ ap Some place)

  module _ (L : Sites) (S : Contents) where
    pub is_fresh : (p s : ℕ) → lost C L p s ≡ true → image_after C L S T p s ≡ fresh_image (map (project C p) (rows_of C T p s))
    is_fresh p s e = ap (λ b. cond b (fresh_image (map (project C p) (rows_of C T p s))) (S.image p s)) e

    pub is_kept : (p s : ℕ) → lost C L p s ≡ false → image_after C L S T p s ≡ S.image p s
    is_kept p s e = ap (λ b. cond b (fresh_image (map (project C p) (rows_of C T p s))) (S.image p s)) e

    pub place_there : (q u i : ℕ) (r : Row) → slice_get (rows_of C T q u) i ≡ Some r → place_of C L S T q r ≡ (u, slice_index (image_keys (image_after C L S T q u)) i)
    place_there q u i r at =
        let x = index_there q u i r at in
        ap (λ o. (segment_of_row C q r, option_map_or (λ j. slice_index (image_keys (image_after C L S T q (segment_of_row C q r))) j) o 0)) x.1 ∙ ap (λ w. (w, slice_index (image_keys (image_after C L S T q w)) i)) x.0

    pub entry_there : (p s q key i : ℕ) → position_of_key (image_after C L S T p s) key ≡ Some i → (r : Row) → slice_get (rows_of C T p s) i ≡ Some r → entry_for C L S T p s q key ≡ place_of C L S T q r
    entry_there p s q key i at r there =
        ap (λ o. option_map_or (λ x. place_of C L S T q x) (option_and_then (slice_get (rows_of C T p s)) o) no_place) at ∙ ap (λ o. option_map_or (λ x. place_of C L S T q x) o no_place) there

    pub entry_past : (p s q key i : ℕ) → position_of_key (image_after C L S T p s) key ≡ Some i → slice_get (rows_of C T p s) i ≡ None → entry_for C L S T p s q key ≡ no_place
    entry_past p s q key i at there =
        ap (λ o. option_map_or (λ x. place_of C L S T q x) (option_and_then (slice_get (rows_of C T p s)) o) no_place) at ∙ ap (λ o. option_map_or (λ x. place_of C L S T q x) o no_place) there

-- ---- the keys 1, 2, 3, ..

fresh_keys : {X : Type 0} (n : ℕ) (xs : List X) → map (λ x. x.0) (enumerate_from n xs) ≡ range_with_len n (length xs)
fresh_keys n [] = refl
fresh_keys n (x ∷ xs) = ap (λ l. n ∷ l) (fresh_keys (n + 1) xs)

pub keys_are : (xs : List (List Rattle.cs_schema.specs.declared.cells.Value.Value)) → image_keys (fresh_image xs) ≡ range_with_len 1 (length xs)
keys_are xs = fresh_keys 1 xs

in_range_at : (n m key : ℕ) → n ≤ key → key < n + m → position_or_len (λ k. k == key) (range_with_len n m) ≡ key - n
in_range_at n m key a b =
    let long : length (range_with_len n m) ≡ m = length-range_with_len n m in
    position_or_len_is (λ k. k == key) (range_with_len n m) (key - n) 0 (omega (arith, long))
    (λ k l. ap (λ x. x == key) (get_or-range_with_len n m k 0 (omega arith)) ∙ differ (n + k) key (λ e. absurd (omega (arith, e, l))))
    (λ l. ap (λ x. x == key) (get_or-range_with_len n m (key - n) 0 (omega arith)) ∙ eq-eqb (n + (key - n)) key (omega arith))

-- the position of a key that is not in a range
out_of_range : (n m key : ℕ) → ((k : ℕ) → k < m → n + k ≢ key) → position_or_len (λ k. k == key) (range_with_len n m) ≡ m
out_of_range n m key apart =
    let long : length (range_with_len n m) ≡ m = length-range_with_len n m in
    position_or_len_is (λ k. k == key) (range_with_len n m) m 0 (omega (arith, long)) (λ k l. ap (λ x. x == key) (get_or-range_with_len n m k 0 l) ∙ differ (n + k) key (apart k l)) (λ l. absurd (omega (arith, l, long)))

not_below : (n : ℕ) → nat_lt n n ≡ false
not_below n = go (nat_lt n n) refl
  where
    go : (b : Bool) → nat_lt n n ≡ b → b ≡ false
    go true e = absurd (let l : n < n = ltb-true n n e in omega arith)
    go false e = refl

module _ (xs : List (List Rattle.cs_schema.specs.declared.cells.Value.Value)) where
  abbrev ks : List ℕ
  ks = range_with_len 1 (length xs)

  by_keys : (key : ℕ) → position_of_key (fresh_image xs) key ≡ position (λ k. k == key) ks
  by_keys key = ap (position (λ k. k == key)) (keys_are xs)

  pub fresh_position : (key : ℕ) → 1 ≤ key → key ≤ length xs → position_of_key (fresh_image xs) key ≡ Some (key - 1)
  fresh_position key low high =
      let at : position_or_len (λ k. k == key) ks ≡ key - 1 = in_range_at 1 (length xs) key low (omega arith) in
      let long : length ks ≡ length xs = length-range_with_len 1 (length xs) in
      by_keys key ∙ position_first (λ k. k == key) ks (omega (arith, at, long)) ∙ ap Some at

  none_at : (key : ℕ) → position_or_len (λ k. k == key) ks ≡ length xs → position_of_key (fresh_image xs) key ≡ None
  none_at key at =
      let long : length ks ≡ length xs = length-range_with_len 1 (length xs) in
      by_keys key ∙ ap (λ n. cond (nat_lt n (length ks)) (Some n) None) (at ∙ sym long) ∙ ap (λ b. cond b (Some (length ks)) None) (not_below (length ks))

  pub no_fresh_zero : position_of_key (fresh_image xs) 0 ≡ None
  no_fresh_zero = none_at 0 (out_of_range 1 (length xs) 0 (λ k l e. absurd (omega (arith, e))))

  pub no_fresh_past : (key : ℕ) → length xs < key → position_of_key (fresh_image xs) key ≡ None
  no_fresh_past key past = none_at key (out_of_range 1 (length xs) key (λ k l e. absurd (omega (arith, e, l, past))))

  pub fresh_key : (i : ℕ) → i < length xs → slice_index (image_keys (fresh_image xs)) i ≡ i + 1
  fresh_key i l = ap (λ ks. get_or ks i 0) (keys_are xs) ∙ get_or-range_with_len 1 (length xs) i 0 l ∙ (let z : 1 + i ≡ i + 1 = omega arith in z)
