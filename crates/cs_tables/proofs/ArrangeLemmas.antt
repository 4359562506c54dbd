-- Columns that are moved to their places one by one.
use Rattle.std.proofs.Common.{◌≡◌, ◌≢◌, ℕ, ◌+◌, ◌<◌, ◌≤◌, List, [], ◌∷◌, ◌++◌, length, set, get_or, ◌∙◌, arith, None, get_or-set_other, below_more}
use Rattle.std.proofs.lemmas.List.{get_or_append_left, get_or_default, get_or_push, length-set, length_push}
use Rattle.cs_schema.specs.CatalogData.{ColumnData}
use Rattle.cs_schema.specs.declared.cells.Cells.{Cells}
use Rattle.cs_csv.specs.Columns.{NamesDiffer}
use Rattle.cs_tables.specs.ByName.{old_column}
use Rattle.cs_tables.specs.Differences.{first_without}
use Rattle.cs_tables.proofs.NameLemmas.{old_column-below, old_column-once}

-- the first n columns of the new catalog are moved, and the others still stand at their old places
pub record AreArrangedBefore (old new : List ColumnData) (columns rest arranged : List Cells) (n : ℕ) : Type 0 where
  pub size : length rest ≡ length old
  pub count : length arranged ≡ n
  pub same : (c : ℕ) (d : Cells) → c < n → get_or arranged c d ≡ get_or columns (old_column old new c) d
  pub left : (c : ℕ) (d : Cells) → n ≤ c → c < length new → get_or rest (old_column old new c) d ≡ get_or columns (old_column old new c) d

module _ (old new : List ColumnData) (named : first_without new old ≡ None) (differ : NamesDiffer new) (columns rest arranged : List Cells) (n : ℕ) (low : n < length new) (before : AreArrangedBefore old new columns rest arranged n) where
  pub arranged_more : (x d e : Cells) → x ≡ get_or rest (old_column old new n) d → AreArrangedBefore old new columns (set rest (old_column old new n) e) (arranged ++ x ∷ []) (n + 1)
  arranged_more x d e is =
      let P : ℕ → Type 0 = λ c. (f : Cells) → get_or (arranged ++ x ∷ []) c f ≡ get_or columns (old_column old new c) f in
      let there : old_column old new n < length rest = omega (arith, before.size, old_column-below old new named n low) in
      let same = below_more P n
      (λ c h f. get_or_append_left arranged (x ∷ []) f c (omega (arith, before.count)) ∙ before.same c f h)
      (λ f. get_or_push arranged x f n before.count ∙ is ∙ get_or_default rest (old_column old new n) d f there ∙ before.left n f (omega arith) low) in
      record {
        size = length-set rest _ e ∙ before.size;
        count = omega (arith, length_push arranged x, before.count);
        same = λ c f h. same c h f;
        left = λ c f h k.
            let other : old_column old new c ≢ old_column old new n = λ q. (let i : c ≡ n = old_column-once old new named differ c n k low q in omega arith) in
            get_or-set_other rest (old_column old new n) (old_column old new c) e f other ∙ before.left c f (omega arith) k;
      }
