-- No two columns of a catalog have one name.
use Rattle.std.proofs.Common.{◌≡◌, ◌≢◌, ℕ, zero, suc, ◌<◌, Bool, true, false, not, List, [], ◌∷◌, length, map, get_or, sym, ◌∙◌, arith}
use Rattle.std.specs.List.{list_all}
use Rattle.std.proofs.lemmas.Bool.{and_parts, false≢true}
use Rattle.std.proofs.lemmas.List.{get_or-map, length-map}
use Rattle.std.proofs.lemmas.List.Folds.{list_any_at}
use Rattle.cs_schema.specs.CatalogData.{CatalogData, ColumnData, no_column}
use Rattle.cs_schema.specs.CatalogRules.{IsCatalog}
use Rattle.cs_schema.specs.Rules.{are_distinct, is_among, is_name, same_text}
use Rattle.cs_schema.proofs.ColumnNames.{itself}
use Rattle.cs_csv.specs.Columns.{NamesDiffer}

not-true : (b : Bool) → not b ≡ true → b ≢ true
not-true true h e = absurd (false≢true h)
not-true false h e = absurd (false≢true e)

distinct_at : (names : List (List ℕ)) (i j : ℕ) → are_distinct names ≡ true → i < j → j < length names → get_or names i [] ≢ get_or names j []
distinct_at [] i j h low there e = absurd (omega arith)
distinct_at (x ∷ names) zero zero h low there e = absurd (omega arith)
distinct_at (x ∷ names) zero (suc j) h low there e =
    let apart = (and_parts (not (is_among x names)) (are_distinct names) h).0 in
    not-true (is_among x names) apart (list_any_at (λ other. same_text other x) names j [] (omega arith) (itself (get_or names j []) x (sym e)))
distinct_at (x ∷ names) (suc i) zero h low there e = absurd (omega arith)
distinct_at (x ∷ names) (suc i) (suc j) h low there e = distinct_at names i j (and_parts (not (is_among x names)) (are_distinct names) h).1 (omega arith) (omega arith) e

pub catalog_names : (C : CatalogData) → IsCatalog C → NamesDiffer C.columns
catalog_names C cat i j hi hj e =
    let distinct : are_distinct (map (λ c. c.name) C.columns) ≡ true = (and_parts (list_all is_name (map (λ c. c.name) C.columns)) (are_distinct (map (λ c. c.name) C.columns)) cat.column_names).1 in
    let at = λ (k : ℕ) (h : k < length C.columns). get_or-map (λ (c : ColumnData). c.name) C.columns k no_column [] h in
    let size : length (map (λ c. c.name) C.columns) ≡ length C.columns = length-map C.columns (λ (c : ColumnData). c.name) in
    let same : get_or (map (λ c. c.name) C.columns) i [] ≡ get_or (map (λ c. c.name) C.columns) j [] = at i hi ∙ e ∙ sym (at j hj) in
    let below : i < j → ⊥ = λ l. distinct_at (map (λ c. c.name) C.columns) i j distinct l (omega (arith, size)) same in
    let above : j < i → ⊥ = λ l. distinct_at (map (λ c. c.name) C.columns) j i distinct l (omega (arith, size)) (sym same) in
    omega arith
