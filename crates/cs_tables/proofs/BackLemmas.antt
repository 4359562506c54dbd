-- Rows laid out anew, and then as they were.
use Rattle.std.proofs.Common.{◌≡◌, ℕ, ◌<◌, List, [], ◌∷◌, length, map, refl, sym, ap, ◌∙◌, arith, inl, inr, None}
use Rattle.std.specs.Prelude.{pos}
use Rattle.std.proofs.lemmas.List.{get_or_default, length-map, same_lists}
use Rattle.cs_schema.specs.CatalogData.{CatalogData, ColumnData}
use Rattle.cs_schema.specs.CatalogRules.{IsCatalog}
use Rattle.cs_schema.specs.Lists.{IsIn}
use Rattle.cs_schema.specs.Rows.{Row, IsRow, cell}
use Rattle.cs_schema.specs.declared.cells.Value.{Value}
use Rattle.cs_tables.specs.ByName.{by_name, column_named, old_column}
use Rattle.cs_tables.specs.Differences.{first_difference}
use Rattle.cs_tables.proofs.DifferenceLemmas.{alike, none_missing}
use Rattle.cs_tables.proofs.NameLemmas.{old_column-below, old_column-name}
use Rattle.cs_tables.proofs.RowLemmas.{cell-by_name}

module _ (old new : CatalogData) (old-rules : IsCatalog old) (new-rules : IsCatalog new) (e : first_difference old new ≡ None) where
  there-and-back : (c : ℕ) → c < length old.columns → old_column old.columns new.columns (old_column new.columns old.columns c) ≡ c
  there-and-back c h =
      let same = alike old new old-rules new-rules e in
      let missing = none_missing old new e in
      let there : old_column new.columns old.columns c < length new.columns = old_column-below new.columns old.columns missing c h in
      same.old_differ _ c (old_column-below old.columns new.columns same.named _ there) h (old_column-name old.columns new.columns same.named _ there ∙ old_column-name new.columns old.columns missing c h)

  row_back : (row : Row) → IsRow old row → by_name new old (by_name old new row) ≡ row
  row_back row is =
      let size : length (by_name new old (by_name old new row)) ≡ length old.columns = length-map old.columns (λ (x : ColumnData). cell (by_name old new row) (column_named new.columns x.name)) in
      same_lists (by_name new old (by_name old new row)) row (size ∙ sym is.0)
      (λ c d h.
      let low : c < length old.columns = omega (arith, size) in
      let there : old_column new.columns old.columns c < length new.columns = old_column-below new.columns old.columns (none_missing old new e) c low in
      get_or_default _ c d (Value.Int (pos 0)) h ∙ cell-by_name new old (by_name old new row) c low
      ∙ cell-by_name old new row _ there ∙ ap (cell row) (there-and-back c low)
      ∙ get_or_default row c (Value.Int (pos 0)) d (omega (arith, is.0)))

  pub rows_back : (T : List Row) → ((row : Row) → IsIn row T → IsRow old row) → map (by_name new old) (map (by_name old new) T) ≡ T
  rows_back [] are = refl
  rows_back (row ∷ T) are =
      ap (λ (r : Row). r ∷ map (by_name new old) (map (by_name old new) T)) (row_back row (are row (inl refl)))
      ∙ ap (λ (l : List Row). row ∷ l) (rows_back T (λ r i. are r (inr i)))
