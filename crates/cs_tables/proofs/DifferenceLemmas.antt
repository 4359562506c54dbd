-- Catalogs without a difference.
use Rattle.std.proofs.Common.{◌≡◌, Bool, true, false, refl, sym, Some, None}
use Rattle.std.specs.Prelude.{Option, if◌then◌else◌}
use Rattle.std.specs.Option.{option_map, option_or}
use Rattle.std.proofs.lemmas.Option.{none-some}
use Rattle.cs_schema.specs.CatalogData.{CatalogData}
use Rattle.cs_schema.specs.CatalogRules.{IsCatalog}
use Rattle.cs_tables.specs.Differences.{first_difference, first_of_other_kind, first_without, have_same_key}
use Rattle.cs_tables.specs.declared.differences.Difference.{Difference}
use Rattle.cs_tables.proofs.CatalogNames.{catalog_names}
use Rattle.cs_tables.proofs.RowLemmas.{AreAlike}

or-none : {X : Type 0} (a b : Option X) → option_or a b ≡ None → (a ≡ None) × (b ≡ None)
or-none None b e = (refl, e)
or-none (Some x) b e = absurd (none-some x (sym e))

map-none : {X Y : Type 0} (f : X → Y) (a : Option X) → option_map f a ≡ None → a ≡ None
map-none f None e = refl
map-none f (Some x) e = absurd (none-some (f x) (sym e))

key-none : (b : Bool) (d : Difference) → (if b then None else Some d) ≡ None → b ≡ true
key-none true d e = refl
key-none false d e = absurd (none-some d (sym e))

-- no old column is missing
pub none_missing : (old new : CatalogData) → first_difference old new ≡ None → first_without old.columns new.columns ≡ None
none_missing old new e = map-none Difference.Missing _ (or-none (option_map Difference.Missing (first_without old.columns new.columns)) _ e).0

-- catalogs without a difference have the same columns and key
pub alike : (old new : CatalogData) → IsCatalog old → IsCatalog new → first_difference old new ≡ None → AreAlike old new
alike old new old-rules new-rules e =
    let missing = or-none (option_map Difference.Missing (first_without old.columns new.columns)) _ e in
    let unknown = or-none (option_map Difference.Unknown (first_without new.columns old.columns)) _ missing.1 in
    let kinds = or-none (option_map Difference.Kind (first_of_other_kind new.columns old.columns)) _ unknown.1 in
    record {
      named = map-none Difference.Unknown _ unknown.0;
      kinds = map-none Difference.Kind _ kinds.0;
      key = key-none (have_same_key old new) Difference.Key kinds.1;
      old_differ = catalog_names old old-rules;
      new_differ = catalog_names new new-rules;
      old_key = old-rules.key;
      new_key = new-rules.key;
    }
