-- A row is kept by the projections that keep the row at its cuts.
use Rattle.std.proofs.Common.{◌≡◌, ℕ, ◌+◌, ◌<◌, List, [], ◌∷◌, refl, sym, ap, subst, ◌∙◌, Bool, true, false, not, cond, inl, inr, length, arith, ◌==◌, eqb-true, eq-eqb, pos, fold}
use Rattle.std.specs.List.{range_with_len}
use Rattle.std.specs.Ordering.{is_le}
use Rattle.std.proofs.lemmas.List.FromFn.{get_or-map-range_with_len, length-map-range_with_len}
use Rattle.cs_schema.specs.declared.cells.Value.{Value}
use Rattle.cs_schema.specs.Lists.{IsIn}
use Rattle.cs_schema.specs.Values.{value_cmp, IsOfKind}
use Rattle.cs_schema.specs.Ranges.{range_of}
use Rattle.cs_schema.specs.CatalogData.{CatalogData, projection, column}
use Rattle.cs_schema.specs.CatalogRules.{IsCatalog}
use Rattle.cs_schema.specs.Rows.{cell, Row, IsRow, segment_of_row}
use Rattle.cs_schema.specs.Losses.{lost}
use Rattle.cs_safety.specs.SafetyCuts.{first_sort, least_of, cuts_on, at_cut, at_cuts}
use Rattle.cs_safety.specs.SafetyLaws.{CutsDecide}
use Rattle.cs_schema.proofs.Lists.{in_range, range_in, member_at}
use Rattle.cs_schema.proofs.Surviving.{in_flat, flat_in}
use Rattle.cs_safety.proofs.GreatestCut.{least_at_most, least_kind, greatest_from, same_side}

count_from : (p q : Value → Bool) (xs : List Value) (a : ℕ) → ((x : Value) → IsIn x xs → p x ≡ q x) → fold (λ n x. n + cond (p x) 1 0) a xs ≡ fold (λ n x. n + cond (q x) 1 0) a xs
count_from p q [] a h = refl
count_from p q (x ∷ xs) a h = ap (λ b. fold (λ n x. n + cond (p x) 1 0) (a + cond b 1 0) xs) (h x (inl refl)) ∙ count_from p q xs (a + cond (q x) 1 0) (λ y i. h y (inr i))

module _ (C : CatalogData) where
  pub cuts_are_on : (p : ℕ) → p < length C.projections → (c : Value) → IsIn c (projection C p).cuts → IsIn c (cuts_on C (first_sort C p))
  cuts_are_on p h c i =
      flat_in (λ q. cond (first_sort C q == first_sort C p) (projection C q).cuts []) (range_with_len 0 (length C.projections)) p c (range_in 0 (length C.projections) p (omega arith) (omega (arith, h)))
      (subst (λ b. IsIn c (cond b (projection C p).cuts [])) (sym (eq-eqb (first_sort C p) (first_sort C p) refl)) i)

  -- a fact of the cuts on a column, projection by projection
  pub each_cut_on : (P : Value → Type 0) (k : ℕ) → ((p : ℕ) → p < length C.projections → first_sort C p ≡ k → (u : Value) → IsIn u (projection C p).cuts → P u) → (c : Value) → IsIn c (cuts_on C k) → P c
  each_cut_on P k all c i =
      let x = in_flat (λ q. cond (first_sort C q == k) (projection C q).cuts []) (range_with_len 0 (length C.projections)) c i in
      let l = (in_range 0 (length C.projections) x.0 x.1).1 in
      go x.0 (omega (arith, l)) (first_sort C x.0 == k) refl x.2
    where
      go : (q : ℕ) → q < length C.projections → (b : Bool) → (first_sort C q == k) ≡ b → IsIn c (cond b (projection C q).cuts []) → P c
      go q h true e m = all q h (eqb-true (first_sort C q) k e) c m
      go q h false e m = absurd m

  -- what holds of the least value and of each cut on the column holds of the greatest cut that is not above a value
  pub at_cut_from : (P : Value → Type 0) (k : ℕ) (v : Value) → P (least_of (column C k).kind) → ((p : ℕ) → p < length C.projections → first_sort C p ≡ k → (u : Value) → IsIn u (projection C p).cuts → P u) → P (at_cut C k v)
  at_cut_from P k v least all = greatest_from (least_of (column C k).kind) v P least (cuts_on C k) (each_cut_on P k all)

  -- a value and the greatest cut that is not above it lie in one range
  pub same_range : (p : ℕ) → p < length C.projections → (v : Value) → IsOfKind (column C (first_sort C p)).kind v → range_of (projection C p).cuts (at_cut C (first_sort C p) v) ≡ range_of (projection C p).cuts v
  same_range p h v kind =
      let k : ℕ = first_sort C p in
      count_from (λ c. is_le (value_cmp c (at_cut C k v))) (λ c. is_le (value_cmp c v)) (projection C p).cuts 0
      (λ c i. same_side (least_of (column C k).kind) v (least_at_most (column C k).kind v kind) (cuts_on C k) c (cuts_are_on p h c i))

  module _ (cat : IsCatalog C) where
    pub sort_inside : (p : ℕ) → p < length C.projections → first_sort C p < length C.columns
    sort_inside p h =
        let rules = cat.projections p h in
        rules.columns (first_sort C p) (rules.sort (first_sort C p) (member_at (projection C p).sort 0 0 rules.some_sort))

    module _ (r : Row) (is : IsRow C r) where
      pub cell_at_cut : (c : ℕ) → c < length C.columns → cell (at_cuts C r) c ≡ at_cut C c (cell r c)
      cell_at_cut c l = get_or-map-range_with_len (λ c. at_cut C c (cell r c)) 0 (length C.columns) c c (Value.Int (pos 0)) l (omega arith)

      at_cuts_row : IsRow C (at_cuts C r)
      at_cuts_row = (
        length-map-range_with_len (λ c. at_cut C c (cell r c)) 0 (length C.columns),
        λ c l. subst (IsOfKind (column C c).kind) (sym (cell_at_cut c l))
            (at_cut_from (IsOfKind (column C c).kind) c (cell r c) (least_kind (column C c).kind) (λ p h e u i. subst (λ w. IsOfKind (column C w).kind u) e ((cat.projections p h).cut_kinds u i))),
      )

      same_segment : (p : ℕ) → p < length C.projections → segment_of_row C p (at_cuts C r) ≡ segment_of_row C p r
      same_segment p h =
          let k : ℕ = first_sort C p in
          let l : k < length C.columns = sort_inside p h in
          ap (range_of (projection C p).cuts) (cell_at_cut k l) ∙ same_range p h (cell r k) (is.1 k l)

pub cuts_decide : CutsDecide
cuts_decide C cat L r is = (at_cuts_row C cat r is, λ p h. ap (λ s. not (lost C L p s)) (same_segment C cat r is p h))
