-- A cell of the row at the cuts is the greatest cut on its column that is not above the row's cell.
use Rattle.std.proofs.Common.{◌≡◌, ℕ, ◌<◌, ◌⊎◌, List, [], ◌∷◌, refl, sym, ap, subst, ◌∙◌, Bool, true, false, cond, ◌&&◌, inl, inr, length}
use Rattle.std.specs.Ordering.{is_le}
use Rattle.cs_schema.specs.declared.cells.Value.{Value}
use Rattle.cs_schema.specs.Lists.{IsIn}
use Rattle.cs_schema.specs.Values.{value_cmp, IsOfKind}
use Rattle.cs_schema.specs.CatalogData.{CatalogData, projection, column}
use Rattle.cs_schema.specs.CatalogRules.{IsCatalog}
use Rattle.cs_schema.specs.Rows.{Row, IsRow, cell}
use Rattle.cs_safety.specs.CutLaws.{IsCutOn, IsGreatestCut, AllCutsAreAbove, CellsAreGreatestCuts}
use Rattle.cs_safety.specs.SafetyCuts.{first_sort, least_of, cuts_on, at_cut, at_cuts, greatest_below}
use Rattle.cs_schema.proofs.Ascending.{false≢true}
use Rattle.cs_safety.proofs.GreatestCut.{AtMost, greatest_at_most, greatest_is, least_at_most}
use Rattle.cs_safety.proofs.RowsAtCuts.{cuts_are_on, each_cut_on, cell_at_cut}

-- the greatest of some values, none below d, that is not above v: one of them, or d where all are above
which : (d v : Value) (cs : List Value) → ((c : Value) → IsIn c cs → AtMost d c) → IsIn (greatest_below d v cs) cs ⊎ ((greatest_below d v cs ≡ d) × ((c : Value) → IsIn c cs → is_le (value_cmp c v) ≡ false))
which d v [] least = inr (refl, λ c h. absurd h)
which d v (x ∷ xs) least = go (is_le (value_cmp x v)) refl (is_le (value_cmp (greatest_below d v xs) x)) refl (which d v xs (λ c h. least c (inr h)))
  where
    all_above : is_le (value_cmp x v) ≡ false → ((c : Value) → IsIn c xs → is_le (value_cmp c v) ≡ false) → (c : Value) → IsIn c (x ∷ xs) → is_le (value_cmp c v) ≡ false
    all_above e none c (inl k) = ap (λ w. is_le (value_cmp w v)) k ∙ e
    all_above e none c (inr h) = none c h

    go : (a : Bool) → is_le (value_cmp x v) ≡ a → (b : Bool) → is_le (value_cmp (greatest_below d v xs) x) ≡ b
        → IsIn (greatest_below d v xs) xs ⊎ ((greatest_below d v xs ≡ d) × ((c : Value) → IsIn c xs → is_le (value_cmp c v) ≡ false))
        → IsIn (cond (a && b) x (greatest_below d v xs)) (x ∷ xs) ⊎ ((cond (a && b) x (greatest_below d v xs) ≡ d) × ((c : Value) → IsIn c (x ∷ xs) → is_le (value_cmp c v) ≡ false))
    go true e true f h = inl (inl refl)
    go true e false f (inl h) = inl (inr h)
    go true e false f (inr h) = false≢true (sym f ∙ ap (λ w. is_le (value_cmp w x)) h.0 ∙ least x (inl refl))
    go false e b f (inl h) = inl (inr h)
    go false e b f (inr h) = inr (h.0, all_above e h.1)

module _ (C : CatalogData) (cat : IsCatalog C) (r : Row) (row : IsRow C r) (c : ℕ) (here : c < length C.columns) where
  abbrev least : Value
  least = least_of (column C c).kind

  abbrev v : Value
  v = cell r c

  is : cell (at_cuts C r) c ≡ at_cut C c v
  is = cell_at_cut C cat r row c here

  not_below : (p : ℕ) → p < length C.projections → first_sort C p ≡ c → (u : Value) → IsIn u (projection C p).cuts → AtMost least u
  not_below p h e u i = least_at_most (column C c).kind u (subst (λ w. IsOfKind (column C w).kind u) e ((cat.projections p h).cut_kinds u i))

  on_column : (u : Value) → IsIn u (cuts_on C c) → IsCutOn C c u
  on_column u i = each_cut_on C (IsCutOn C c) c (λ p h e w k. (p, h, e, k)) u i

  among : (u : Value) → IsCutOn C c u → IsIn u (cuts_on C c)
  among u x = subst (λ w. IsIn u (cuts_on C w)) x.2 (cuts_are_on C x.0 x.1 u x.3)

  parts : IsIn (at_cut C c v) (cuts_on C c) ⊎ ((at_cut C c v ≡ least) × ((u : Value) → IsIn u (cuts_on C c) → is_le (value_cmp u v) ≡ false))
      → IsGreatestCut C c v (cell (at_cuts C r) c) ⊎ ((cell (at_cuts C r) c ≡ least) × AllCutsAreAbove C c v)
  parts (inl i) = inl (subst (IsGreatestCut C c v) (sym is) (record {
    is_cut = on_column (at_cut C c v) i;
    at_most = greatest_at_most least v (least_at_most (column C c).kind v (row.1 c here)) (cuts_on C c);
    greatest = λ u x l. greatest_is least v (cuts_on C c) u (among u x) l;
  }))
  parts (inr x) = inr (is ∙ x.0, λ u k. x.1 u (among u k))

  greatest_cut : IsGreatestCut C c v (cell (at_cuts C r) c) ⊎ ((cell (at_cuts C r) c ≡ least) × AllCutsAreAbove C c v)
  greatest_cut = parts (which least v (cuts_on C c) (each_cut_on C (AtMost least) c not_below))

pub cells_are_cuts : CellsAreGreatestCuts
cells_are_cuts C cat r row c here = greatest_cut C cat r row c here
