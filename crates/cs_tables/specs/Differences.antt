-- How the columns and the primary key of two catalogs differ.
use Rattle.std.specs.Prelude.{ℕ, Bool, true, false, not, ◌&&◌, if◌then◌else◌, List, Option, Some, None}
use Rattle.std.specs.List.{list_any, position}
use Rattle.std.specs.Option.{option_map, option_or}
use Rattle.cs_schema.specs.CatalogData.{CatalogData, ColumnData, column}
use Rattle.cs_schema.specs.Rules.{same_text}
use Rattle.cs_schema.specs.declared.kinds.Kind.{Kind}
use Rattle.cs_schema.specs.declared.kinds.Kind.TheVariants as kind
use Rattle.cs_tables.specs.ByName.{has_column}
use Rattle.cs_tables.specs.declared.differences.Difference.{Difference}

abbrev pub are_same_kind : Kind → Kind → Bool
are_same_kind kind.Int kind.Int = true
are_same_kind kind.Int kind.Text = false
are_same_kind kind.Text kind.Int = false
are_same_kind kind.Text kind.Text = true

-- whether a column has this name and kind
abbrev pub has_column_of_kind : List ColumnData → List ℕ → Kind → Bool
has_column_of_kind columns name kind = list_any (λ c. same_text c.name name && are_same_kind c.kind kind) columns

-- the first column without one of its name among others
abbrev pub first_without : List ColumnData → List ColumnData → Option ℕ
first_without columns others = position (λ c. not (has_column others c.name)) columns

-- the first column without one of its name and kind among others
abbrev pub first_of_other_kind : List ColumnData → List ColumnData → Option ℕ
first_of_other_kind columns others = position (λ c. not (has_column_of_kind others c.name c.kind)) columns

-- the primary keys have one name
abbrev pub have_same_key : CatalogData → CatalogData → Bool
have_same_key old new = same_text (column old old.key).name (column new new.key).name

-- The first difference: of the old columns that the new catalog lacks, of the new ones that the old lacks, of the kinds of
-- the new ones, or of the primary keys.
abbrev pub first_difference : CatalogData → CatalogData → Option Difference
first_difference old new =
    option_or (option_map Difference.Missing (first_without old.columns new.columns))
    (option_or (option_map Difference.Unknown (first_without new.columns old.columns))
    (option_or (option_map Difference.Kind (first_of_other_kind new.columns old.columns))
    (if have_same_key old new then None else Some Difference.Key)))
