-- If the survivors of a loss hold a table, the verdict is that table: its files are the answer, and no other table is
-- held.
use Rattle.std.proofs.Common.{◌≡◌, ℕ, zero, suc, ◌+◌, ◌≤◌, List, [], ◌∷◌, ◌++◌, map, refl, sym, ap, subst, ◌∙◌, Bool, true, false, not, ◌||◌, inl, inr, None, length, arith, Ok, Ordering}
use Rattle.std.specs.Prelude.{nat_lt}
use Rattle.std.specs.List.{range_with_len, filter, flat_map}
use Rattle.std.specs.List.Sorted.{IsStrictlySortedBy}
use Rattle.std.specs.Option.{option_map, option_or}
use Rattle.std.specs.Cmp.{Equal-is, IsTotalOrder, tied_itself}
use Rattle.std.specs.declared.cmp.Ordering.TheVariants.{Less}
use borrow.Author.Tests.{ltb-true}
use lib.Pointwise.{pointwise, pointwise_decides}
use Rattle.cs_schema.specs.declared.cells.Value.{Value}
use Rattle.cs_schema.specs.declared.file_name.FileName.{FileName}
use Rattle.cs_store.specs.declared.fault.Fault.{Fault}
use Rattle.cs_schema.specs.CatalogData.{CatalogData, HasSegment, segments, has_join}
use Rattle.cs_schema.specs.CatalogRules.{IsCatalog}
use Rattle.cs_schema.specs.Rows.{Row, IsTable, segment_of_row, project, cell, key_cmp, row_cmp}
use Rattle.cs_schema.specs.Lists.{IsIn}
use Rattle.cs_schema.specs.FileNames.{Survives, FileContents}
use Rattle.cs_schema.specs.Losses.{Sites, lost}
use Rattle.cs_schema.specs.Values.{value_cmp, value_eq}
use Rattle.cs_schema.specs.Order.{rows_of, Fits, row_limit}
use Rattle.cs_schema.specs.Lists.{numbers_below}
use Rattle.cs_delta.specs.Image.{ImageData, image_rows}
use Rattle.cs_jix.specs.JoinIndex.{Place}
use Rattle.cs_safety.specs.PlanData.{PlanData, IsPlan}
use Rattle.cs_safety.specs.Safety.{IsSafeByRows}
use Rattle.cs_rows.specs.Walk.{Contents, walked}
use Rattle.cs_rows.specs.WalkByRows.{walked_by_rows, without_repeats}
use Rattle.cs_recovery.specs.Contents.{IsImageOf, IsJoinOf, Reads}
use Rattle.cs_recovery.specs.Holding.{AreContentsOf, agrees}
use Rattle.cs_recovery.specs.Verdicts.{IsSound, judged, unless_refused, twice, full, misplaced, misled, surviving_segments, surviving_joins}
use Rattle.cs_recovery.specs.Tables.{when}
use Rattle.cs_order.specs.Tables.{table_of, is_twice, all_segments}
use Rattle.cs_recovery.specs.Places.{entries_for}
use Rattle.cs_schema.proofs.Ascending.{false≢true, not_self, All-in, in_filter}
use Rattle.cs_schema.proofs.RowOrder.{rows_of-are, tied_same, key_total, row_total}
use Rattle.cs_schema.specs.ValueOrder.{value_cmp_total, value_cmp-IsAntisymmetric}
use Rattle.cs_schema.proofs.Lists.{in_map, in_range}
use Rattle.cs_recovery.proofs.Walks.{IsKeyed}
use Rattle.cs_recovery.proofs.RowLists.{once_only}
use Rattle.cs_recovery.proofs.RowHome.{full_rows, rows_walk_ends, rows_table_walked}
use Rattle.cs_recovery.proofs.WalkedRows.{none_any, none_found, in_flat_map, walk_ends, in_segments, table_walked}

-- ---- a list without repeats

abbrev Once : {X : Type 0} → List X → Type 0
Once [] = Unit {0}
Once (x ∷ xs) = (IsIn x xs → ⊥) × Once xs

once_sorted : {X : Type 0} (cmp : X → X → Ordering) (total : IsTotalOrder cmp) (xs : List X) → IsStrictlySortedBy cmp xs → Once xs
unfolding IsStrictlySortedBy
once_sorted cmp total [] s = tt
once_sorted cmp total (x ∷ xs) s = (λ h. not_self cmp total x (All-in (λ w. cmp x w ≡ Less) xs s.0 x h), once_sorted cmp total xs s.1)

once_append : {X : Type 0} (xs ys : List X) → Once xs → Once ys → ((z : X) → IsIn z xs → IsIn z ys → ⊥) → Once (xs ++ ys)
once_append [] ys a b f = b
once_append (x ∷ xs) ys a b f =
    (λ h. elim (Rattle.cs_schema.proofs.Lists.in_append xs ys x h) [ inl i ↦ a.0 i | inr j ↦ f x (inl refl) j ], once_append xs ys a.1 b (λ z i j. f z (inr i) j))

pub once_segments : (C : CatalogData) (T : List Row) (t : IsTable C T) (p a n : ℕ) → Once (flat_map (rows_of C T p) (range_with_len a n))
once_segments C T t p a zero = tt
once_segments C T t p a (suc n) =
    once_append (rows_of C T p a) (flat_map (rows_of C T p) (range_with_len (a + 1) n))
    (once_sorted (row_cmp C p) (row_total C p) (rows_of C T p a) (rows_of-are C T t p a).in_order)
    (once_segments C T t p (a + 1) n)
    (λ z i j. apart z i (in_flat_map (rows_of C T p) (range_with_len (a + 1) n) z j))
  where
    apart : (z : Row) → IsIn z (rows_of C T p a) → ((s : ℕ) × IsIn s (range_with_len (a + 1) n) × IsIn z (rows_of C T p s)) → ⊥
    apart z i x =
        let e : segment_of_row C p z ≡ a = (((rows_of-are C T t p a).members z).0 i).1 in
        let f : segment_of_row C p z ≡ x.0 = (((rows_of-are C T t p x.0).members z).0 x.2).1 in
        let l = (in_range (a + 1) n x.0 x.1).0 in
        omega arith

pub not_twice : (C : CatalogData) (T : List Row) (t : IsTable C T) (xs : List Row) → Once xs → ((x : Row) → IsIn x xs → IsIn x T) → is_twice C xs ≡ false
not_twice C T t [] o f = refl
not_twice C T t (r ∷ rs) o f =
    ap (λ b. b || is_twice C rs) (none_any (λ x. value_eq (cell r C.key) (cell x C.key)) rs (λ x i. go x i (value_eq (cell r C.key) (cell x C.key)) refl))
    ∙ not_twice C T t rs o.1 (λ x i. f x (inr i))
  where
    go : (x : Row) → IsIn x rs → (b : Bool) → value_eq (cell r C.key) (cell x C.key) ≡ b → value_eq (cell r C.key) (cell x C.key) ≡ false
    go x i false e = e
    go x i true e =
        let s : r ≡ x = tied_same (key_cmp C) (key_total C) T t.keys r x (f r (inl refl)) (f x (inr i)) ((Equal-is (key_cmp C r x)).0 e) in
        absurd (o.0 (subst (λ w. IsIn w rs) (sym s) i))

-- ---- equal rows

pub value_decides : (x y : Value) → (value_eq x y ≡ true → x ≡ y) × (x ≡ y → value_eq x y ≡ true)
value_decides x y = (λ e. value_cmp-IsAntisymmetric x y ((Equal-is (value_cmp x y)).0 e), λ e. subst (λ w. value_eq x w ≡ true) e ((Equal-is (value_cmp x x)).1 (tied_itself value_cmp_total x)))

pub cells_decide : (xs ys : List Value) → (pointwise value_eq xs ys ≡ true → xs ≡ ys) × (xs ≡ ys → pointwise value_eq xs ys ≡ true)
cells_decide = pointwise_decides value_decides

pub rows_decide : (xs ys : List (List Value)) → (pointwise (pointwise value_eq) xs ys ≡ true → xs ≡ ys) × (xs ≡ ys → pointwise (pointwise value_eq) xs ys ≡ true)
rows_decide = pointwise_decides cells_decide

-- ---- names in order

pub all_are_segments : (C : CatalogData) (a : ℕ × ℕ) → IsIn a (all_segments C) → HasSegment C a.0 a.1
all_are_segments C a h =
    let x = in_flat_map (λ p. map (λ s. (p, s)) (numbers_below (segments C p))) (numbers_below (length C.projections)) a h in
    let y = in_map (λ (s : ℕ). (x.0, s)) (numbers_below (segments C x.0)) a x.2 in
    let lp = (in_range 0 (length C.projections) x.0 x.1).1 in
    let ls = (in_range 0 (segments C x.0) y.0 y.1).1 in
    let is : HasSegment C x.0 y.0 = (omega (arith, lp), omega (arith, ls)) in
    subst (λ (w : ℕ × ℕ). HasSegment C w.0 w.1) (sym y.2) is

not-so : (b : Bool) → not b ≡ true → b ≡ false
not-so true e = false≢true e
not-so false e = refl

pub survivors_survive : (C : CatalogData) (L : Sites) (a : ℕ × ℕ) → IsIn a (surviving_segments C L) → Survives C L (FileName.Seg a.0 a.1)
survivors_survive C L a h =
    let x = in_filter (λ (a : ℕ × ℕ). not (lost C L a.0 a.1)) (all_segments C) a h in
    (all_are_segments C a x.0, not-so (lost C L a.0 a.1) x.1)

pub joins_survive : (C : CatalogData) (L : Sites) (a : ℕ × ℕ × ℕ) → IsIn a (surviving_joins C L) → Survives C L (FileName.Jix a.0 a.1 a.2)
joins_survive C L a h =
    let x = in_flat_map (λ (a : ℕ × ℕ). map (λ q. (a.0, a.1, q)) (filter (has_join C a.0) (numbers_below (length C.projections)))) (surviving_segments C L) a h in
    let s = survivors_survive C L x.0 x.1 in
    let y = in_map (λ (q : ℕ). (x.0.0, x.0.1, q)) (filter (has_join C x.0.0) (numbers_below (length C.projections))) a x.2 in
    let q = in_filter (has_join C x.0.0) (numbers_below (length C.projections)) y.0 y.1 in
    let is : Survives C L (FileName.Jix x.0.0 x.0.1 y.0) = ((s.0, q.1), s.1) in
    subst (λ (w : ℕ × ℕ × ℕ). Survives C L (FileName.Jix w.0 w.1 w.2)) (sym y.2) is

-- ---- the verdict

-- what the layers below promise: a file has one content, and the keys of an image are distinct
pub record Layers (C : CatalogData) : Type 0 where
  pub one_image : (F : FileContents) (p s : ℕ) → HasSegment C p s → (m n : ImageData) → IsImageOf C F p s m → IsImageOf C F p s n → m ≡ n
  pub one_join : (F : FileContents) (p s q : ℕ) (e f : List Place) → IsJoinOf F p s q e → IsJoinOf F p s q f → e ≡ f
  pub keyed : (F : FileContents) (p s : ℕ) (m : ImageData) → IsImageOf C F p s m → IsKeyed m

module _ (C : CatalogData) (cat : IsCatalog C) (layers : Layers C) (F : FileContents) (L : Sites) where
  -- the surviving files of a reading are sound
  pub sound : (S : Contents) → Reads C F L S → (n : FileName) → Survives C L n → IsSound C F n
  sound S r (FileName.Seg p s) h = let i = r.images p s h in (i.segment_bytes, i.base, i.has_segment, i.segment_file)
  sound S r (FileName.Del p s) h = (S.image p s, r.images p s h)
  sound S r (FileName.Jix p s q) h = (S.join p s q, r.joins p s q h)

  none_refused : (S : Contents) (T : List Row) → IsTable C T → Fits C T → AreContentsOf C L S T → option_or (full C T) (option_or (misplaced C L S T) (misled C L S T)) ≡ None
  none_refused S T t fits same =
      let f : full C T ≡ None = ap (option_map (λ (a : ℕ × ℕ). Fault.Full a.0 a.1)) (none_found (λ (a : ℕ × ℕ). nat_lt row_limit (length (rows_of C T a.0 a.1))) (all_segments C) (λ a h. fine a (fits a.0 a.1 (all_are_segments C a h)) (nat_lt row_limit (length (rows_of C T a.0 a.1))) refl)) in
      let p : misplaced C L S T ≡ None = ap (option_map (λ (a : ℕ × ℕ). Fault.Misplaced a.0 a.1)) (none_found (λ (a : ℕ × ℕ). not (pointwise (pointwise value_eq) (image_rows (S.image a.0 a.1)) (map (project C a.0) (rows_of C T a.0 a.1)))) (surviving_segments C L) (λ a h. ap not ((rows_decide _ _).1 (same.images a.0 a.1 (survivors_survive C L a h))))) in
      let q : misled C L S T ≡ None = ap (option_map (λ (a : ℕ × ℕ × ℕ). Fault.Misled a.0 a.1 a.2)) (none_found (λ (a : ℕ × ℕ × ℕ). not (pointwise (agrees C L a.2) (S.join a.0 a.1 a.2) (entries_for C L S T a.0 a.1 a.2))) (surviving_joins C L) (λ a h. ap not (same.joins a.0 a.1 a.2 (joins_survive C L a h)))) in
      ap (λ o. option_or o (option_or (misplaced C L S T) (misled C L S T))) f ∙ ap (λ o. option_or o (misled C L S T)) p ∙ q
    where
      fine : (a : ℕ × ℕ) → length (rows_of C T a.0 a.1) ≤ row_limit → (b : Bool) → nat_lt row_limit (length (rows_of C T a.0 a.1)) ≡ b → nat_lt row_limit (length (rows_of C T a.0 a.1)) ≡ false
      fine a h false e = e
      fine a h true e = let l = ltb-true row_limit (length (rows_of C T a.0 a.1)) e in absurd (omega (arith, l, h))

  pub judged_is : (S : Contents) (T : List Row) (P : PlanData) → Reads C F L S → IsTable C T → Fits C T → AreContentsOf C L S T → IsPlan C L P → judged C L S (walked C S P) ≡ Ok T
  judged_is S T P reads t fits same plan =
      let keyed : (p s : ℕ) → Survives C L (FileName.Seg p s) → IsKeyed (S.image p s) = λ p s h. layers.keyed F p s (S.image p s) (reads.images p s h) in
      let rows : List Row = flat_map (rows_of C T P.anchor) (numbers_below (segments C P.anchor)) in
      let w : walked C S P ≡ Ok rows = walk_ends C cat L S T t same keyed P plan in
      let e : table_of C rows ≡ T = table_walked C cat L S T t same keyed P plan in
      let two : twice C rows ≡ None = ap (λ b. when b Fault.Twice) (not_twice C T t rows (once_segments C T t P.anchor 0 (segments C P.anchor)) (λ x h. in_segments C cat L S T t same keyed P plan x h)) in
      ap (judged C L S) w
      ∙ ap (λ U. unless_refused (option_or (twice C rows) (option_or (full C U) (option_or (misplaced C L S U) (misled C L S U)))) U) e
      ∙ ap (λ o. unless_refused (option_or o (option_or (full C T) (option_or (misplaced C L S T) (misled C L S T)))) T) two
      ∙ ap (λ o. unless_refused o T) (none_refused S T t fits same)

  -- by rows, if the loss leaves every row reachable
  pub judged_by_rows : (S : Contents) (T : List Row) → Reads C F L S → IsTable C T → Fits C T → AreContentsOf C L S T → IsSafeByRows C L → judged C L S (walked_by_rows C L S) ≡ Ok T
  judged_by_rows S T reads t fits same safe =
      let keyed : (p s : ℕ) → Survives C L (FileName.Seg p s) → IsKeyed (S.image p s) = λ p s h. layers.keyed F p s (S.image p s) (reads.images p s h) in
      let rows : List Row = without_repeats C (full_rows C cat L S T t same keyed) in
      let w : walked_by_rows C L S ≡ Ok rows = rows_walk_ends C cat L S T t same keyed in
      let e : table_of C rows ≡ T = rows_table_walked C cat L S T t same keyed safe in
      let two : twice C rows ≡ None = ap (λ b. when b Fault.Twice) (once_only C (full_rows C cat L S T t same keyed)) in
      ap (judged C L S) w
      ∙ ap (λ U. unless_refused (option_or (twice C rows) (option_or (full C U) (option_or (misplaced C L S U) (misled C L S U)))) U) e
      ∙ ap (λ o. unless_refused (option_or o (option_or (full C T) (option_or (misplaced C L S T) (misled C L S T)))) T) two
      ∙ ap (λ o. unless_refused o T) (none_refused S T t fits same)
