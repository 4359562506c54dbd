-- Columns that are pushed in turn.
use Rattle.std.proofs.Common.{◌≡◌, ℕ, zero, suc, ◌+◌, ◌<◌, List, [], ◌∷◌, ◌++◌, length, map, take, refl, sym, ◌∙◌}
use Rattle.std.proofs.lemmas.List.{map-append, map_more}
use Rattle.cs_csv.specs.Columns.{column}
use Rattle.cs_schema.specs.CatalogData.{ColumnData, no_column}
use Rattle.cs_schema.specs.Values.{values, kind_of}
use Rattle.cs_csv.specs.Faults.{cells_at, kinds_of}
use Rattle.cs_schema.specs.declared.cells.Cells.{Cells}

pub push-none : (s : List Cells) (x : Cells) → ((k : ℕ) → cells_at s k ≡ []) → values x ≡ [] → (k : ℕ) → cells_at (s ++ x ∷ []) k ≡ []
push-none [] x h e zero = e
push-none [] x h e (suc k) = refl
push-none (y ∷ s) x h e zero = h 0
push-none (y ∷ s) x h e (suc k) = push-none s x (λ j. h (suc j)) e k

pub push-kinds : (columns : List ColumnData) (s : List Cells) (x : Cells) (i : ℕ) → i < length columns → kinds_of s ≡ map (λ c. c.kind) (take i columns) → kind_of x ≡ (column columns i).kind
    → kinds_of (s ++ x ∷ []) ≡ map (λ c. c.kind) (take (i + 1) columns)
push-kinds columns s x i h e k =
    let more = map_more (λ (c : ColumnData). c.kind) columns i no_column h in
    map-append kind_of s (x ∷ []) ∙ rw (e, k) (sym more)
