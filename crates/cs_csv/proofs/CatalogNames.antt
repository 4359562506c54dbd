-- The names of a catalog's columns: no two are one name, and none begins with a byte order mark.
use Rattle.std.proofs.Common.{◌≡◌, ◌≢◌, ℕ, ◌<◌, true, ◌&&◌, List, [], ◌∷◌, length, get_or, sym, ap, subst, ◌∙◌, arith, nat_le}
use Rattle.std.proofs.Props.{props}
use Rattle.std.proofs.Math.Logic.{∥∥₁_elim}
use Rattle.std.proofs.Math.ListN.{length-map}
use Rattle.std.proofs.lemmas.Bool.{and_parts, leb-true}
use Rattle.std.proofs.lemmas.List.{get_or-map}
use Rattle.std.specs.Prelude.{None, map, slice_index}
use Rattle.std.specs.List.{list_all}
use Rattle.cs_schema.specs.CatalogData.{CatalogData, no_column}
use Rattle.cs_schema.specs.Document.{Document, ColumnText}
use Rattle.cs_schema.specs.Named.{KeepsRules, catalog_of, column_data, column_place}
use Rattle.cs_schema.specs.Rules.{least_broken, document_rules, is_name, are_names, are_distinct, is_name_byte, is_lowercase}
use Rattle.cs_schema.proofs.ColumnNames.{own_place}
use Rattle.cs_schema.proofs.RulesKept.{all_kept, columns_named}
use Rattle.cs_csv.specs.Columns.{NamesDiffer, column}
use Rattle.cs_csv.specs.RoundTrip.{HasNoMark}

no_text : ColumnText
no_text = record { name = []; kind = [] }

module _ (d : Document) (rules : least_broken 3 document_rules d ≡ None) where
  name_at : (i : ℕ) → i < length d.columns → (column (catalog_of d).columns i).name ≡ (get_or d.columns i no_text).name
  name_at i h = ap (λ c. c.name) (get_or-map column_data d.columns i no_text no_column h)

  count : length (catalog_of d).columns ≡ length d.columns
  count = length-map d.columns column_data

  distinct : are_distinct (map (λ e. e.name) d.columns) ≡ true
  distinct =
      let kept = all_kept d rules in
      let named = (and_parts (is_name d.table_name && are_names (map (λ e. e.name) d.columns)) _ kept.0).0 in
      let columns = (and_parts (is_name d.table_name) (are_names (map (λ e. e.name) d.columns)) named).1 in
      (and_parts (list_all is_name (map (λ e. e.name) d.columns)) (are_distinct (map (λ e. e.name) d.columns)) columns).1

  differ : NamesDiffer (catalog_of d).columns
  differ i j hi hj e =
      let li : i < length d.columns = omega (arith, hi, count) in
      let lj : j < length d.columns = omega (arith, hj, count) in
      let same : (get_or d.columns i no_text).name ≡ (get_or d.columns j no_text).name = sym (name_at i li) ∙ e ∙ name_at j lj in
      sym (own_place d.columns i no_text distinct li) ∙ ap (column_place d.columns) same ∙ own_place d.columns j no_text distinct lj

  first_byte : (name : List ℕ) → is_name name ≡ true → slice_index name 0 ≢ 0xEF
  first_byte [] h e = absurd (omega (arith, e))
  first_byte (b ∷ bs) h e =
      let lower = (and_parts (is_lowercase b) (list_all is_name_byte bs) (and_parts (is_lowercase b && list_all is_name_byte bs) _ h).0).0 in
      let high : nat_le b 122 ≡ true = (and_parts (nat_le 97 b) (nat_le b 122) lower).1 in
      let bound = leb-true b 122 high in
      absurd (omega (arith, bound, e))

  first_named : (cs : List ColumnText) → list_all (λ c. is_name c.name) cs ≡ true → slice_index (column (map column_data cs) 0).name 0 ≢ 0xEF
  first_named [] h e = absurd (omega (arith, e))
  first_named (c ∷ cs) h e = first_byte c.name (and_parts (is_name c.name) (list_all (λ x. is_name x.name) cs) h).0 e

  no_mark : HasNoMark (catalog_of d).columns
  no_mark = first_named d.columns (columns_named d rules)

differ-prop : (C : CatalogData) → IsProp (NamesDiffer C.columns)
differ-prop C = hlevel props

no_mark-prop : (C : CatalogData) → IsProp (HasNoMark C.columns)
no_mark-prop C = hlevel props

pub names_differ : (C : CatalogData) → ∥ KeepsRules C ∥₁ → NamesDiffer C.columns
names_differ C kept = ∥∥₁_elim kept (differ-prop C) (λ k. subst (λ c. NamesDiffer c.columns) (sym k.is) (differ k.document k.rules))

pub has_no_mark : (C : CatalogData) → ∥ KeepsRules C ∥₁ → HasNoMark C.columns
has_no_mark C kept = ∥∥₁_elim kept (no_mark-prop C) (λ k. subst (λ c. HasNoMark c.columns) (sym k.is) (no_mark k.document k.rules))
