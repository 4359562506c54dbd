-- What is left of rows, by the columns that were looked at.
use Rattle.std.proofs.Common.{rules, ◌≡◌, ◌≢◌, ℕ, zero, suc, ◌+◌, ◌<◌, ◌==◌, ◌||◌, ◌&&◌, Bool, true, false, not, sym, ap, subst, ◌∙◌, refl, arith, ◌⊎◌, inl, inr, List, [], ◌∷◌, length, slice_index_or, slice_set, bit_or, pos, nat_lt, get_or-set_other, get_or-set_same}
use Rattle.std.proofs.Math.ListN.{length-set}
use Rattle.std.proofs.lemmas.Bool.{cases_lt, cases_eq}
use Rattle.std.proofs.lemmas.Bool.Decides.{nat_tests}
use Rattle.cs_schema.specs.declared.cells.Value.{Value}
use Rattle.cs_schema.proofs.Ascending.{false≢true}
use Rattle.cs_schema.specs.Values.{IsOfKind}
use Rattle.cs_schema.specs.Ranges.{range_of}
use Rattle.cs_schema.specs.CatalogData.{CatalogData, ColumnData, no_column, projection, column}
use Rattle.cs_schema.specs.CatalogRules.{IsCatalog}
use Rattle.cs_schema.specs.Rows.{Row, IsRow, cell, segment_of_row}
use Rattle.cs_schema.specs.Losses.{Sites, lost}
use Rattle.cs_safety.specs.Safety.{IsSafeByRows, with_row}
use Rattle.cs_safety.specs.SafetyCuts.{first_sort, least_of, at_cut}
use Rattle.cs_safety.specs.NumberSets.{is_in}
use Rattle.cs_safety.specs.Reach.{IsGraphOf, Suits}
use Rattle.cs_safety.specs.RowSets.{keeps, keeps_row, IsKept, IsLeft, IsComplete, AreLeft, IsGrown, IsGrowing, HasValue, HasCuts, StaysIn, among}
use Rattle.cs_safety.specs.declared.graph.Graph.{Graph}
use Rattle.cs_safety.proofs.BitSets.{joined, none_in}
use Rattle.cs_safety.proofs.Bounded.{decide}
use Rattle.cs_safety.proofs.Reached.{is_suitable, suits}
use Rattle.cs_safety.proofs.GreatestCut.{least_kind}
use Rattle.cs_safety.proofs.RowsAtCuts.{at_cut_from, same_range, sort_inside}

pub stays_value : (C : CatalogData) (L : Sites) (c : ℕ) (old before after : List Bool) (v : Value) → StaysIn before after → HasValue C L c old before v → HasValue C L c old after v
stays_value C L c old before after v stays h = (h.0, h.1, h.2, λ t l e. let r = h.3 t l e in (r.0, stays (bit_or t h.0) r.1))

-- ---- one column more

-- the same segment for the value and the row, at each projection that is sorted by the column first
abbrev pub SameRange : CatalogData → ℕ → Value → Row → Type 0
SameRange C c v r = (p : ℕ) → p < length C.projections → first_sort C p ≡ c → range_of (projection C p).cuts v ≡ segment_of_row C p r

pub left_more : (C : CatalogData) (L : Sites) (c : ℕ) (r : Row) (v : Value) (t kept : ℕ) → IsLeft C L c r t → IsKept C L c v kept → SameRange C c v r → IsLeft C L (c + 1) r (bit_or t kept)
left_more C L c r v t kept left k same p = joined t kept p ∙ ap (λ b. b || is_in kept p) (left p) ∙ ap (λ b. keeps_row C L c r p || b) (k p) ∙ both
  where
    f : ℕ
    f = first_sort C p

    both : (keeps_row C L c r p || keeps C L c v p) ≡ keeps_row C L (c + 1) r p
    both = elim (cases_lt p (length C.projections)) [
      | inl exists ↦
          let here : nat_lt p (length C.projections) ≡ true = grind (arith, nat_tests) in
          elim (cases_lt (first_sort C p) c) [
            | inl below ↦
                let a : nat_lt (first_sort C p) c ≡ true = grind (arith, nat_tests) in
                let b : (first_sort C p == c) ≡ false = grind (arith, nat_tests) in
                let d : nat_lt (first_sort C p) (c + 1) ≡ true = grind (arith, nat_tests) in
                rw (here, a, b, d) (or_false (with_row C L r p))
            | inr not_below ↦
                let a : nat_lt (first_sort C p) c ≡ false = grind (arith, nat_tests) in
                elim (cases_eq (first_sort C p) c) [
                  | inl e ↦
                      let b : (first_sort C p == c) ≡ true = grind (arith, nat_tests) in
                      let d : nat_lt (first_sort C p) (c + 1) ≡ true = grind (arith, nat_tests) in
                      rw (here, a, b, d) (ap (λ s. not (lost C L p s)) (same p exists e))
                  | inr apart ↦
                      let b : (first_sort C p == c) ≡ false = grind (arith, nat_tests) in
                      let d : nat_lt (first_sort C p) (c + 1) ≡ false = grind (arith, nat_tests) in
                      rw (here, a, b, d) refl
                ]
          ]
      | inr beyond ↦
          let gone : nat_lt p (length C.projections) ≡ false = grind (arith, nat_tests) in
          rw gone refl
    ]
      where
        or_false : (b : Bool) → (b || false) ≡ b
        or_false true = refl
        or_false false = refl

-- ---- soundness: the row with the value put in

cell_put : (r : Row) (c k : ℕ) (v : Value) → k ≢ c → cell (slice_set r c v) k ≡ cell r k
cell_put r c k v ne = get_or-set_other r c k v (Value.Int (pos 0)) ne

left_put : (C : CatalogData) (L : Sites) (c : ℕ) (r : Row) (v : Value) (t : ℕ) → IsLeft C L c r t → IsLeft C L c (slice_set r c v) t
left_put C L c r v t left p = left p ∙ ap (λ b. nat_lt p (length C.projections) && b) (same (decide (nat_lt (first_sort C p) c)))
  where
    same : (nat_lt (first_sort C p) c ≡ true) ⊎ (nat_lt (first_sort C p) c ≡ false) → (nat_lt (first_sort C p) c && with_row C L r p) ≡ (nat_lt (first_sort C p) c && with_row C L (slice_set r c v) p)
    same (inl e) =
        let ne : first_sort C p ≢ c = λ f. false≢true (sym (grind (arith, nat_tests)) ∙ e) in
        ap (λ w. nat_lt (first_sort C p) c && not (lost C L p (range_of (projection C p).cuts w))) (sym (cell_put r c (first_sort C p) v ne))
    same (inr e) = ap (λ b. b && with_row C L r p) e ∙ sym (ap (λ b. b && with_row C L (slice_set r c v) p) e)

row_put : (C : CatalogData) (r : Row) (c : ℕ) (v : Value) → c < length C.columns → IsRow C r → IsOfKind (column C c).kind v → IsRow C (slice_set r c v)
row_put C r c v h row kind = (length-set r c v ∙ row.0, λ k l. each k l (cases_eq k c))
  where
    each : (k : ℕ) → k < length C.columns → (k ≡ c) ⊎ (k ≢ c) → IsOfKind (column C k).kind (cell (slice_set r c v) k)
    each k l (inl e) =
        let inside : c < length r = subst (λ n. c < n) (sym row.0) h in
        let here : cell (slice_set r c v) c ≡ v = get_or-set_same r c v (Value.Int (pos 0)) inside in
        subst (λ j. IsOfKind (column C j).kind (cell (slice_set r c v) j)) (sym e) (subst (IsOfKind (column C c).kind) (sym here) kind)
    each k l (inr ne) = subst (IsOfKind (column C k).kind) (sym (cell_put r c k v ne)) (row.1 k l)

range_put : (C : CatalogData) (r : Row) (c : ℕ) (v : Value) → c < length C.columns → IsRow C r → SameRange C c v (slice_set r c v)
range_put C r c v h row p l e =
    let inside : c < length r = subst (λ n. c < n) (sym row.0) h in
    let here : cell (slice_set r c v) c ≡ v = get_or-set_same r c v (Value.Int (pos 0)) inside in
    ap (range_of (projection C p).cuts) (sym (ap (cell (slice_set r c v)) e ∙ here))

pub grown_sound : (C : CatalogData) (L : Sites) (c : ℕ) (v : Value) (kept : ℕ) (old before after : List Bool) → c < length C.columns → IsOfKind (column C c).kind v
    → AreLeft C L c old → IsKept C L c v kept → IsGrown old kept before after → IsGrowing C L c before → IsGrowing C L c after
grown_sound C L c v kept old before after h kind left k grown growing = record { size = grown.size; sound = λ s l e. go s l (grown.from s e) }
  where
    go : (s : ℕ) → s < 256 → (among before s ≡ true) ⊎ ((t : ℕ) × (t < 256) × (among old t ≡ true) × (s ≡ bit_or t kept)) → (r : Row) × IsRow C r × IsLeft C L (c + 1) r s
    go s l (inl e) = growing.sound s l e
    go s l (inr (t, m, e, is)) =
        let f = left.sound t m e in
        let r = slice_set f.0 c v in
        (r, row_put C f.0 c v h f.1 kind, subst (IsLeft C L (c + 1) r) (sym is) (left_more C L c r v t kept (left_put C L c f.0 v t f.2) k (range_put C f.0 c v h f.1)))

-- the family with the sets of the least value and of all cuts on the column is complete
pub grown_complete : (C : CatalogData) (L : Sites) (c : ℕ) (old new : List Bool) → c < length C.columns → AreLeft C L c old
    → HasValue C L c old new (least_of (column C c).kind)
    → ((p : ℕ) → p < length C.projections → first_sort C p ≡ c → HasCuts C L c old new p) → IsComplete C L (c + 1) new
grown_complete C L c old new h left least cuts r row =
    let v = cell r c in
    let t = left.complete r row in
    let k = at_cut_from C (HasValue C L c old new) c v least cuts in
    let s = k.3 t.0 t.1 t.2 in
    let same : SameRange C c (at_cut C c v) r = λ p l e.
    subst (λ d. d < length C.columns → range_of (projection C p).cuts (at_cut C d (cell r d)) ≡ segment_of_row C p r) e
    (λ i. same_range C p l (cell r (first_sort C p)) (row.1 (first_sort C p) i)) h in
    (bit_or t.0 k.0, s.0, s.1, left_more C L c r (at_cut C c v) t.0 k.0 t.3 k.2 same)

pub nothing_grows : (C : CatalogData) (L : Sites) (c : ℕ) (sets : List Bool) → length sets ≡ 256 → ((s : ℕ) → among sets s ≡ false) → IsGrowing C L c sets
nothing_grows C L c sets size none = record { size = size; sound = λ s l e. false≢true (sym (none s) ∙ e) }

pub joined_column : (C : CatalogData) (L : Sites) (c : ℕ) (old new : List Bool) → c < length C.columns → AreLeft C L c old → IsGrowing C L c new
    → HasValue C L c old new (least_of (column C c).kind)
    → ((p : ℕ) → p < length C.projections → first_sort C p ≡ c → HasCuts C L c old new p) → AreLeft C L (c + 1) new
joined_column C L c old new h left growing least cuts = record { size = growing.size; sound = growing.sound; complete = grown_complete C L c old new h left least cuts }

-- ---- the first and the last column

cells_for : (cs : List ColumnData) → (r : Row) × (length r ≡ length cs) × ((c : ℕ) → c < length cs → IsOfKind (slice_index_or cs c no_column).kind (cell r c))
cells_for [] = ([], refl, λ c h. absurd (omega arith))
cells_for (k ∷ cs) = let f = cells_for cs in (least_of k.kind ∷ f.0, ap suc f.1, λ c h. each c h f)
  where
    each : (c : ℕ) → c < length (k ∷ cs) → (f : (r : Row) × (length r ≡ length cs) × ((c : ℕ) → c < length cs → IsOfKind (slice_index_or cs c no_column).kind (cell r c))) → IsOfKind (slice_index_or (k ∷ cs) c no_column).kind (cell (least_of k.kind ∷ f.0) c)
    each zero h f = least_kind k.kind
    each (suc c) h f = f.2 c (omega arith)

pub some_row : (C : CatalogData) → (r : Row) × IsRow C r
some_row C = let f = cells_for C.columns in (f.0, (f.1, f.2))

pub first_left : (C : CatalogData) (L : Sites) (sets : List Bool) → length sets ≡ 256 → among sets 0 ≡ true → ((s : ℕ) → among sets s ≡ true → s ≡ 0) → AreLeft C L 0 sets
first_left C L sets size has only = record {
  size = size;
  sound = λ s l e. let r = some_row C in (r.0, r.1, subst (IsLeft C L 0 r.0) (sym (only s e)) (nothing r.0));
  complete = λ r row. (0, omega arith, has, nothing r);
}
  where
    nothing : (r : Row) → IsLeft C L 0 r 0
    nothing r p = none_in p ∙ sym (none_kept (decide (nat_lt p (length C.projections))))
      where
        none_kept : (nat_lt p (length C.projections) ≡ true) ⊎ (nat_lt p (length C.projections) ≡ false) → keeps_row C L 0 r p ≡ false
        none_kept (inl e) =
            let z : nat_lt (first_sort C p) 0 ≡ false = grind (arith, nat_tests) in
            ap (λ b. b && (nat_lt (first_sort C p) 0 && with_row C L r p)) e ∙ ap (λ b. b && with_row C L r p) z
        none_kept (inr e) = ap (λ b. b && (nat_lt (first_sort C p) 0 && with_row C L r p)) e

-- at the last column a set holds just what the row has
last_left : (C : CatalogData) → IsCatalog C → (L : Sites) (r : Row) (s : ℕ) → IsLeft C L (length C.columns) r s → (q : ℕ) → q < length C.projections → is_in s q ≡ with_row C L r q
last_left C rules L r s left q h =
    let inside = sort_inside C rules q h in
    let a : nat_lt q (length C.projections) ≡ true = grind (arith, nat_tests) in
    let b : nat_lt (first_sort C q) (length C.columns) ≡ true = grind (arith, nat_tests) in
    left q ∙ ap (λ x. x && (nat_lt (first_sort C q) (length C.columns) && with_row C L r q)) a ∙ ap (λ x. x && with_row C L r q) b

module _ (C : CatalogData) (rules : IsCatalog C) (g : Graph) (G : IsGraphOf C g) (L : Sites) (sets : List Bool) (left : AreLeft C L (length C.columns) sets) where
  pub safe_by_sets : ((s : ℕ) → s < 256 → among sets s ≡ true → (a : ℕ) × Suits g s a) → IsSafeByRows C L
  safe_by_sets all r row =
      let f = left.complete r row in
      let w = all f.0 f.1 f.2 in
      (w.0, is_suitable C g G f.0 (with_row C L r) (λ q h. last_left C rules L r f.0 f.3 q (subst (λ n. q < n) G.count h)) w.0 w.1.exists w.1)

  pub unsafe_by_set : (s : ℕ) → s < 256 → among sets s ≡ true → ((a : ℕ) → ¬ Suits g s a) → ¬ IsSafeByRows C L
  unsafe_by_set s h e none safe =
      let f = left.sound s h e in
      let w = safe f.0 f.1 in
      none w.0 (suits C g G s (with_row C L f.0) (λ q h. last_left C rules L f.0 s f.2 q (subst (λ n. q < n) G.count h)) w.0 (subst (λ n. w.0 < n) (sym G.count) w.1.exists) w.1)
