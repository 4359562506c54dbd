-- Rows of one catalog as rows of another.
use Rattle.std.proofs.Common.{◌≡◌, ℕ, ◌<◌, Bool, true, not, ◌&&◌, List, [], ◌∷◌, length, map, refl, sym, ap, subst, ◌∙◌, None}
use Rattle.std.specs.Prelude.{pos}
use Rattle.std.specs.List.{position_or_len, AllByRecursion}
use Rattle.std.specs.List.Sorted.{IsStrictlySortedBy}
use Rattle.std.specs.declared.cmp.Ordering.TheVariants.{Less}
use Rattle.std.proofs.lemmas.Bool.{and_parts, false≢true}
use Rattle.std.proofs.lemmas.List.{get_or-map, length-map}
use Rattle.cs_schema.specs.CatalogData.{CatalogData, ColumnData, no_column}
use Rattle.cs_schema.specs.Rows.{Row, IsRow, IsTable, cell, key_cmp}
use Rattle.cs_schema.specs.Rules.{same_text}
use Rattle.cs_schema.specs.Values.{IsOfKind, value_cmp}
use Rattle.cs_schema.specs.declared.cells.Value.{Value}
use Rattle.cs_schema.specs.declared.kinds.Kind.{Kind}
use Rattle.cs_schema.specs.declared.kinds.Kind.TheVariants as kind
use Rattle.cs_schema.proofs.ColumnNames.{found_below, found_passes, same}
use Rattle.cs_schema.proofs.Lists.{in_map}
use Rattle.cs_csv.specs.Columns.{NamesDiffer, column}
use Rattle.cs_tables.specs.ByName.{by_name, column_named, old_column}
use Rattle.cs_tables.specs.Differences.{are_same_kind, first_of_other_kind, first_without, has_column_of_kind, have_same_key}
use Rattle.cs_tables.proofs.NameLemmas.{not-false, old_column-below, old_column-name, position_none}

kinds_equal : (a b : Kind) → are_same_kind a b ≡ true → a ≡ b
kinds_equal kind.Int kind.Int e = refl
kinds_equal kind.Int kind.Text e = absurd (false≢true e)
kinds_equal kind.Text kind.Int e = absurd (false≢true e)
kinds_equal kind.Text kind.Text e = refl

-- the catalogs have the same columns and key, and no name twice
pub record AreAlike (old new : CatalogData) : Type 0 where
  pub named : first_without new.columns old.columns ≡ None
  pub kinds : first_of_other_kind new.columns old.columns ≡ None
  pub key : have_same_key old new ≡ true
  pub old_differ : NamesDiffer old.columns
  pub new_differ : NamesDiffer new.columns
  pub old_key : old.key < length old.columns
  pub new_key : new.key < length new.columns

pub cell-by_name : (old new : CatalogData) (row : Row) (c : ℕ) → c < length new.columns → cell (by_name old new row) c ≡ cell row (old_column old.columns new.columns c)
cell-by_name old new row c h = get_or-map (λ (x : ColumnData). cell row (column_named old.columns x.name)) new.columns c no_column (Value.Int (pos 0)) h

module _ (old new : CatalogData) (alike : AreAlike old new) where
  pub same_kind : (c : ℕ) → c < length new.columns → (column old.columns (old_column old.columns new.columns c)).kind ≡ (column new.columns c).kind
  same_kind c h =
      let x : ColumnData = column new.columns c in
      let test : ColumnData → Bool = λ y. same_text y.name x.name && are_same_kind y.kind x.kind in
      let there : has_column_of_kind old.columns x.name x.kind ≡ true = not-false _ (position_none (λ (y : ColumnData). not (has_column_of_kind old.columns y.name y.kind)) new.columns c no_column alike.kinds h) in
      let i : ℕ = position_or_len test old.columns in
      let low : i < length old.columns = found_below test old.columns there in
      let parts = and_parts (same_text (column old.columns i).name x.name) (are_same_kind (column old.columns i).kind x.kind) (found_passes test old.columns no_column there) in
      let one : old_column old.columns new.columns c ≡ i =
      alike.old_differ _ i (old_column-below old.columns new.columns alike.named c h) low (old_column-name old.columns new.columns alike.named c h ∙ sym (same _ _ parts.0)) in
      ap (λ (k : ℕ). (column old.columns k).kind) one ∙ kinds_equal _ _ parts.1

  -- the primary key is that of the old catalog
  pub old_key : old_column old.columns new.columns new.key ≡ old.key
  old_key =
      alike.old_differ _ old.key (old_column-below old.columns new.columns alike.named new.key alike.new_key) alike.old_key
      (old_column-name old.columns new.columns alike.named new.key alike.new_key ∙ sym (same _ _ alike.key))

  pub by_name-row : (row : Row) → IsRow old row → IsRow new (by_name old new row)
  by_name-row row h = (
    length-map new.columns (λ (x : ColumnData). cell row (column_named old.columns x.name)),
    λ c l.
        let low : old_column old.columns new.columns c < length old.columns = old_column-below old.columns new.columns alike.named c l in
        let of_kind : IsOfKind (column old.columns (old_column old.columns new.columns c)).kind (cell row (old_column old.columns new.columns c)) = h.1 (old_column old.columns new.columns c) low in
        subst (IsOfKind (column new.columns c).kind) (sym (cell-by_name old new row c l)) (subst (λ (k : Kind). IsOfKind k (cell row (old_column old.columns new.columns c))) (same_kind c l) of_kind),
  )

  key-by_name : (a b : Row) → key_cmp new (by_name old new a) (by_name old new b) ≡ key_cmp old a b
  key-by_name a b =
      let here : (row : Row) → cell (by_name old new row) new.key ≡ cell row old.key = λ row. cell-by_name old new row new.key alike.new_key ∙ ap (cell row) old_key in
      ap (λ v. value_cmp v (cell (by_name old new b) new.key)) (here a) ∙ ap (value_cmp (cell a old.key)) (here b)

  below_all : (a : Row) (rows : List Row) → AllByRecursion (λ b. key_cmp old a b ≡ Less) rows → AllByRecursion (λ b. key_cmp new (by_name old new a) b ≡ Less) (map (by_name old new) rows)
  below_all a [] h = tt
  below_all a (b ∷ rows) h = (key-by_name a b ∙ h.0, below_all a rows h.1)

  in_order : (rows : List Row) → IsStrictlySortedBy (key_cmp old) rows → IsStrictlySortedBy (key_cmp new) (map (by_name old new) rows)
  unfolding IsStrictlySortedBy
  in_order [] h = tt
  in_order (a ∷ rows) h = (below_all a rows h.0, in_order rows h.1)

  -- a table laid out anew is a table in the same order
  pub by_name-table : (T : List Row) → IsTable old T → IsTable new (map (by_name old new) T)
  by_name-table T h = record {
    rows = λ row i. let from = in_map (by_name old new) T row i in subst (IsRow new) (sym from.2) (by_name-row from.0 (h.rows from.0 from.1));
    keys = in_order T h.keys;
  }
