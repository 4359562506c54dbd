-- The columns of a table as those of the table laid out anew.
use Rattle.std.proofs.Common.{◌≡◌, ◌≢◌, ℕ, zero, suc, ◌<◌, List, [], ◌∷◌, length, map, get_or, refl, sym, ap, subst, ◌∙◌, arith, Ordering}
use Rattle.std.specs.Prelude.{pos}
use Rattle.std.specs.List.{AllByRecursion}
use Rattle.std.specs.List.Sorted.{IsStrictlySortedBy}
use Rattle.std.specs.declared.cmp.Ordering.TheVariants.{Less}
use Rattle.std.proofs.lemmas.List.{get_or-map, length-map}
use Rattle.cs_schema.specs.CatalogData.{CatalogData}
use Rattle.cs_schema.specs.CatalogRules.{IsCatalog}
use Rattle.cs_schema.specs.Lists.{IsIn}
use Rattle.cs_schema.specs.Rows.{Row, IsTable, cell, key_cmp}
use Rattle.cs_schema.specs.Values.{kind_of, value_cmp, values}
use Rattle.cs_schema.specs.declared.cells.Cells.{Cells}
use Rattle.cs_schema.specs.declared.cells.Value.{Value}
use Rattle.cs_schema.proofs.Ascending.{not_self, same_ascending}
use Rattle.cs_schema.proofs.RowOrder.{key_total}
use Rattle.cs_csv.specs.Faults.{cells_at}
use Rattle.cs_csv.proofs.RecordLemmas.{cells_at-is}
use Rattle.cs_recovery.specs.Columns.{AreColumnsOf}
use Rattle.cs_tables.specs.ByName.{AreArranged, by_name, old_column}
use Rattle.cs_tables.proofs.NameLemmas.{old_column-below}
use Rattle.cs_tables.proofs.RowLemmas.{AreAlike, cell-by_name, same_kind}

module _ (old new : CatalogData) (alike : AreAlike old new) where
  cells-by_name : (T : List Row) (c : ℕ) → c < length new.columns → map (λ row. cell row (old_column old.columns new.columns c)) T ≡ map (λ row. cell row c) (map (by_name old new) T)
  cells-by_name [] c h = refl
  cells-by_name (row ∷ T) c h =
      ap (λ v. v ∷ map (λ r. cell r (old_column old.columns new.columns c)) T) (sym (cell-by_name old new row c h))
      ∙ ap (λ l. cell (by_name old new row) c ∷ l) (cells-by_name T c h)

  -- columns of a table, in the order of the new catalog, are those of the table laid out anew
  pub arranged-columns : (T : List Row) (columns arranged : List Cells) → AreColumnsOf old T columns → AreArranged old.columns new.columns columns arranged → AreColumnsOf new (map (by_name old new) T) arranged
  arranged-columns T columns arranged are moved =
      let below = old_column-below old.columns new.columns alike.named in
      record {
        count = moved.count;
        kinds = λ c d h. ap kind_of (moved.same c d h) ∙ are.kinds (old_column old.columns new.columns c) d (below c h) ∙ same_kind old new alike c h;
        cells = λ c d h. ap values (moved.same c d h) ∙ are.cells (old_column old.columns new.columns c) d (below c h) ∙ cells-by_name T c h;
      }

-- tables of the same rows are one table
pub one_table : (C : CatalogData) (T U : List Row) → IsTable C T → IsTable C U → ((row : Row) → IsIn row T → IsIn row U) → ((row : Row) → IsIn row U → IsIn row T) → T ≡ U
one_table C T U t u within all = same_ascending (key_cmp C) (key_total C) T U t.keys u.keys within all

all_at : {X : Type 0} (P : X → Type 0) (xs : List X) (i : ℕ) (d : X) → AllByRecursion P xs → i < length xs → P (get_or xs i d)
all_at P [] i d a h = absurd (omega arith)
all_at P (x ∷ xs) zero d a h = a.0
all_at P (x ∷ xs) (suc i) d a h = all_at P xs i d a.1 (omega arith)

-- of two places in a list that ascends, the lower has the lesser
ascends_at : {X : Type 0} (cmp : X → X → Ordering) (xs : List X) (i j : ℕ) (d : X) → IsStrictlySortedBy cmp xs → i < j → j < length xs → cmp (get_or xs i d) (get_or xs j d) ≡ Less
unfolding IsStrictlySortedBy
ascends_at cmp [] i j d s h k = absurd (omega arith)
ascends_at cmp (x ∷ xs) zero zero d s h k = absurd (omega arith)
ascends_at cmp (x ∷ xs) zero (suc j) d s h k = all_at (λ y. cmp x y ≡ Less) xs j d s.0 (omega arith)
ascends_at cmp (x ∷ xs) (suc i) zero d s h k = absurd (omega arith)
ascends_at cmp (x ∷ xs) (suc i) (suc j) d s h k = ascends_at cmp xs i j d s.1 (omega arith) (omega arith)

-- no two rows of a table have one primary key
pub keys_differ : (C : CatalogData) → IsCatalog C → (T : List Row) → IsTable C T → (columns : List Cells) → AreColumnsOf C T columns → (i j : ℕ) → i < j → j < length (cells_at columns C.key) → cell (cells_at columns C.key) i ≢ cell (cells_at columns C.key) j
keys_differ C cat T t [] are i j h k e = absurd (omega arith)
keys_differ C cat T t (x ∷ xs) are i j h k e =
    let low : C.key < length (x ∷ xs) = omega (arith, are.count, cat.key) in
    let keys : cells_at (x ∷ xs) C.key ≡ map (λ row. cell row C.key) T = cells_at-is (x ∷ xs) C.key x low ∙ are.cells C.key x cat.key in
    let long : length (cells_at (x ∷ xs) C.key) ≡ length T = ap length keys ∙ length-map T (λ (row : Row). cell row C.key) in
    let there : j < length T = omega (arith, long) in
    let here : i < length T = omega (arith, long) in
    let at = λ (n : ℕ) (l : n < length T). ap (λ (v : List Value). cell v n) keys ∙ get_or-map (λ (row : Row). cell row C.key) T n [] (Value.Int (pos 0)) l in
    let same : cell (get_or T i []) C.key ≡ cell (get_or T j []) C.key = sym (at i here) ∙ e ∙ at j there in
    let less : key_cmp C (get_or T i []) (get_or T j []) ≡ Less = ascends_at (key_cmp C) T i j [] t.keys h there in
    not_self (key_cmp C) (key_total C) (get_or T j []) (subst (λ v. value_cmp v (cell (get_or T j []) C.key) ≡ Less) same less)
