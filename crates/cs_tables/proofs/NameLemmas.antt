-- Columns found by their names.
use Rattle.std.proofs.Common.{◌≡◌, ℕ, ◌<◌, Bool, true, false, not, List, length, get_or, refl, sym, ap, ◌∙◌, arith, inl, inr, Some, None}
use Rattle.std.specs.Prelude.{nat_lt}
use Rattle.std.specs.List.{position, position_or_len}
use Rattle.std.proofs.lemmas.Bool.{cases_Bool, false≢true}
use Rattle.std.proofs.lemmas.List.Sums.{fails_before_first}
use Rattle.std.proofs.lemmas.Option.{none-some, same_Some}
use borrow.Author.Tests.{ltb-true, lt-ltb}
use Rattle.cs_schema.specs.CatalogData.{ColumnData, no_column}
use Rattle.cs_schema.specs.Rules.{same_text}
use Rattle.cs_schema.proofs.ColumnNames.{found_below, found_passes, same}
use Rattle.cs_csv.specs.Columns.{NamesDiffer, column}
use Rattle.cs_tables.specs.ByName.{has_column, old_column}
use Rattle.cs_tables.specs.Differences.{first_without}

pub position_parts : {X : Type 0} (p : X → Bool) (xs : List X) (i : ℕ) → position p xs ≡ Some i → (i ≡ position_or_len p xs) × (i < length xs)
position_parts p xs i e = elim (cases_Bool (nat_lt (position_or_len p xs) (length xs))) [
  | inl t ↦
      let s : Some (position_or_len p xs) ≡ Some i = rw t at e in
      let is : position_or_len p xs ≡ i = same_Some (position_or_len p xs) i s in
      let low : position_or_len p xs < length xs = ltb-true (position_or_len p xs) (length xs) t in
      (sym is, omega (arith, is, low))
  | inr f ↦ absurd (none-some i (rw f at e))
]

-- where none is found, each one fails
pub position_none : {X : Type 0} (p : X → Bool) (xs : List X) (i : ℕ) (d : X) → position p xs ≡ None → i < length xs → p (get_or xs i d) ≡ false
position_none p xs i d e h = elim (cases_Bool (nat_lt (position_or_len p xs) (length xs))) [
  | inl t ↦ absurd (none-some (position_or_len p xs) (sym (rw t at e)))
  | inr f ↦
      let high : position_or_len p xs < length xs → ⊥ = λ l. false≢true (sym f ∙ lt-ltb (position_or_len p xs) (length xs) l) in
      fails_before_first p xs i d (omega (arith, high))
]

pub not-false : (b : Bool) → not b ≡ false → b ≡ true
not-false true e = refl
not-false false e = absurd (false≢true (sym e))

module _ (old new : List ColumnData) (named : first_without new old ≡ None) where
  pub is_named : (c : ℕ) → c < length new → has_column old (column new c).name ≡ true
  is_named c h = not-false (has_column old (column new c).name) (position_none (λ (x : ColumnData). not (has_column old x.name)) new c no_column named h)

  pub old_column-below : (c : ℕ) → c < length new → old_column old new c < length old
  old_column-below c h = found_below (λ (x : ColumnData). same_text x.name (column new c).name) old (is_named c h)

  pub old_column-name : (c : ℕ) → c < length new → (column old (old_column old new c)).name ≡ (column new c).name
  old_column-name c h = same _ _ (found_passes (λ (x : ColumnData). same_text x.name (column new c).name) old no_column (is_named c h))

  -- no two columns of the new catalog are one of the old
  pub old_column-once : NamesDiffer new → (c d : ℕ) → c < length new → d < length new → old_column old new c ≡ old_column old new d → c ≡ d
  old_column-once differ c d h k e = differ c d h k (sym (old_column-name c h) ∙ ap (λ (i : ℕ). (column old i).name) e ∙ old_column-name d k)

-- a name that a column has is found
pub none_among : (columns : List ColumnData) (name : List ℕ) → position (λ (x : ColumnData). same_text x.name name) columns ≡ None → has_column columns name ≡ true → ⊥
none_among columns name e h =
    let test : ColumnData → Bool = λ x. same_text x.name name in
    let low : position_or_len test columns < length columns = found_below test columns h in
    none-some (position_or_len test columns) (sym e ∙ (rw (lt-ltb (position_or_len test columns) (length columns) low) refl))
