-- The table of rows, the index of a row, the keys of an image, and the steps of a walk.
use Rattle.std.proofs.Common.{◌≡◌, ℕ, zero, suc, List, [], ◌∷◌, refl, sym, ap, subst, ◌∙◌, false, Some, get_or, eqb-true}
use Rattle.std.specs.Prelude.{◌==◌}
use Rattle.std.specs.List.{slice_get, position_or_len}
use Rattle.std.specs.List.Sorted.{IsStrictlySortedBy}
use Rattle.std.specs.Cmp.{Equal-is, IsTotalOrder, tied_itself}
use Rattle.std.specs.declared.cmp.Ordering.{Ordering}
use Rattle.std.specs.declared.cmp.Ordering.TheVariants.{Less}
use Rattle.std.proofs.lemmas.Option.{same_Some, none-some, slice_get-get_or}
use Rattle.std.proofs.lemmas.List.Quantifiers.{position-Some}
use Rattle.cs_schema.specs.CatalogData.{CatalogData}
use Rattle.cs_schema.specs.Lists.{IsIn}
use Rattle.cs_schema.specs.Order.{rows_of, index_of, is_row}
use Rattle.cs_schema.specs.Rows.{Row, IsRow, IsTable, segment_of_row, key_cmp, row_cmp}
use Rattle.cs_delta.specs.Image.{ImageData, image_keys, position_of_key}
use Rattle.cs_order.specs.Tables.{table_of, is_twice}
use Rattle.cs_recovery.specs.TableLaws.{HasTheRows, HasDistinctKeys, WalkIsStepByStep}
use Rattle.cs_schema.proofs.Ascending.{All-in, not_self, same_ascending, ascending_sorted, in_ascending, ascending_in}
use Rattle.cs_schema.proofs.Lists.{in_at, found_first, position_first}
use Rattle.cs_schema.proofs.RowOrder.{rows_of-are, tied_same, key_total, row_total}
use Rattle.cs_order.proofs.TableRows.{one_row}
use Rattle.cs_rows.proofs.RouteLemmas.{plan_follows}
use Rattle.cs_rows.proofs.StepLemmas.{stand_anchor}
use Rattle.cs_recovery.proofs.Walks.{IsKeyed}

-- ---- the table of rows

module _ (C : CatalogData) where
  row_in : (rows : List Row) → is_twice C rows ≡ false → (r : Row) → IsIn r rows → IsIn r (table_of C rows)
  row_in rows once r h = ascending_in (key_cmp C) (key_total C) rows (one_row C rows once) r h

  in_row : (rows : List Row) (r : Row) → IsIn r (table_of C rows) → IsIn r rows
  in_row rows r h = in_ascending (key_cmp C) (key_total C) rows r h

  sorted : (rows : List Row) → IsStrictlySortedBy (key_cmp C) (table_of C rows)
  sorted rows = ascending_sorted (key_cmp C) (key_total C) rows

  pub has_the_rows : (rows : List Row) → ((r : Row) → IsIn r rows → IsRow C r) → is_twice C rows ≡ false → HasTheRows C rows
  has_the_rows rows are once = record {
    table = record { rows = λ r h. are r (in_row rows r h); keys = sorted rows };
    members = λ r. (in_row rows r, row_in rows once r);
    any_order = λ others apart same. same_ascending (key_cmp C) (key_total C) (table_of C others) (table_of C rows) (sorted others) (sorted rows)
        (λ r h. row_in rows once r ((same r).0 (in_row others r h))) (λ r h. row_in others apart r ((same r).1 (in_row rows r h)));
  }

-- ---- the index of a row

-- an element of a strictly ascending list has one index
one_place : {X : Type 0} (cmp : X → X → Ordering) → IsTotalOrder cmp → (xs : List X) → IsStrictlySortedBy cmp xs → (i j : ℕ) (x : X) → slice_get xs i ≡ Some x → slice_get xs j ≡ Some x → i ≡ j
unfolding IsStrictlySortedBy
one_place cmp total [] s i j x a b = absurd (none-some x a)
one_place cmp total (y ∷ ys) s zero zero x a b = refl
one_place cmp total (y ∷ ys) s zero (suc j) x a b = not_self cmp total x (subst (λ w. cmp w x ≡ Less) (same_Some y x a) (All-in (λ w. cmp y w ≡ Less) ys s.0 x (in_at ys j x b)))
one_place cmp total (y ∷ ys) s (suc i) zero x a b = not_self cmp total x (subst (λ w. cmp w x ≡ Less) (same_Some y x b) (All-in (λ w. cmp y w ≡ Less) ys s.0 x (in_at ys i x a)))
one_place cmp total (y ∷ ys) s (suc i) (suc j) x a b = ap suc (one_place cmp total ys s.1 i j x a b)

module _ (C : CatalogData) (T : List Row) (table : IsTable C T) (p : ℕ) (r : Row) (h : IsIn r T) where
  abbrev rows : List Row
  rows = rows_of C T p (segment_of_row C p r)

  there : (i : ℕ) → index_of C T p r ≡ Some i → slice_get rows i ≡ Some r
  there i e =
      let a = position-Some (is_row C r) rows i [] e in
      let item : Row = get_or rows i [] in
      let at : slice_get rows i ≡ Some item = slice_get-get_or rows i [] a.0 in
      let in_table : IsIn item T = (((rows_of-are C T table p (segment_of_row C p r)).members item).0 (in_at rows i item at)).0 in
      at ∙ ap Some (sym (tied_same (key_cmp C) (key_total C) T table.keys r item h in_table ((Equal-is (key_cmp C r item)).0 a.1)))

  back : (i : ℕ) → slice_get rows i ≡ Some r → index_of C T p r ≡ Some i
  back i at =
      let f = found_first (is_row C r) rows r (in_at rows i r at) ((Equal-is (key_cmp C r r)).1 (tied_itself (key_total C) r)) in
      let is : index_of C T p r ≡ Some (position_or_len (is_row C r) rows) = position_first (is_row C r) rows f.below in
      is ∙ ap Some (one_place (row_cmp C p) (row_total C p) rows (rows_of-are C T table p (segment_of_row C p r)).in_order (position_or_len (is_row C r) rows) i r (there (position_or_len (is_row C r) rows) is) at)

  pub index_is_place : (i : ℕ) → (index_of C T p r ≡ Some i → slice_get rows i ≡ Some r) × (slice_get rows i ≡ Some r → index_of C T p r ≡ Some i)
  index_is_place i = (there i, back i)

-- ---- the keys of an image

pub distinct_keys : (m : ImageData) → IsKeyed m → HasDistinctKeys m
distinct_keys m k = record { inverse = λ i key. (k.found i key, back i key); range = k.range }
  where
    back : (i key : ℕ) → position_of_key m key ≡ Some i → slice_get (image_keys m) i ≡ Some key
    back i key e =
        let a = position-Some (λ x. x == key) (image_keys m) i 0 e in
        slice_get-get_or (image_keys m) i 0 a.0 ∙ ap Some (eqb-true (get_or (image_keys m) i 0) key a.1)

-- ---- the steps of a walk

pub step_by_step : WalkIsStepByStep
step_by_step C L P plan S at = record {
  anchor = sym (stand_anchor C S P at (Rattle.std.specs.Prelude.length C.projections) P.anchor refl);
  step = λ p q here e. plan_follows C L P plan S at q p here e;
}
