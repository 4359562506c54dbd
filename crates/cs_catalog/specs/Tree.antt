-- The document that a catalog's TOML tree is, where every key is there and has its type.
use Rattle.std.specs.Prelude.{codes, ℕ, ℤ, List, [], ◌∷◌, Option, Some, option_map, option_and_then, map, Bool, if◌then◌else◌}
use Rattle.std.specs.Borrow.{Bor}
use Rattle.toml.specs.Data.{Data, string, integer, Items, no_items, item, Members, get_member, as_str, as_integer, as_array, as_table}
use Rattle.cs_schema.specs.Document.{ColumnText, CutText, an_integer, a_text, neither, ProjectionText, Document, read_all, is_from_to, are_there}

-- an item of `cuts`
abbrev pub cut_of : Data → CutText
cut_of (integer z) = an_integer z
cut_of (string s) = a_text s
cut_of _ = neither

-- the items as a list
abbrev pub item_list : Items → List Data
item_list no_items = []
item_list (item d ds) = d ∷ item_list ds

-- the value of each type at a key
abbrev pub text_at : List ℕ → Members → Option (List ℕ)
text_at key ms = option_and_then as_str (get_member key ms)

abbrev pub integer_at : List ℕ → Members → Option ℤ
integer_at key ms = option_and_then as_integer (get_member key ms)

abbrev pub array_at : List ℕ → Members → Option (List Data)
array_at key ms = option_map item_list (option_and_then as_array (get_member key ms))

abbrev pub texts_at : List ℕ → Members → Option (List (List ℕ))
texts_at key ms = option_and_then (read_all as_str) (array_at key ms)

abbrev pub integers_at : List ℕ → Members → Option (List ℤ)
integers_at key ms = option_and_then (read_all as_integer) (array_at key ms)

abbrev pub is_version : ℕ → Members → Bool
is_version n ms = are_there (is_from_to n n) (integer_at (codes "version") ms)

-- what `read` gives of each table of an array of tables
abbrev pub tables_at : {A : Type 0} → (Members → Option A) → List ℕ → Members → Option (List A)
tables_at read key ms = option_and_then (read_all (λ d. option_and_then read (as_table d))) (array_at key ms)

-- a column, a projection and the document, where every key is there and has its type
abbrev pub column_of : Members → Option ColumnText
column_of ms =
    option_and_then (λ name.
    option_and_then (λ kind.
    Some (record { name = name; kind = kind }))
    (text_at (codes "kind") ms))
    (text_at (codes "name") ms)

abbrev pub projection_of : Members → Option ProjectionText
projection_of ms =
    option_and_then (λ name.
    option_and_then (λ columns.
    option_and_then (λ code_numbers.
    option_and_then (λ sort.
    option_and_then (λ cuts.
    option_and_then (λ site_numbers.
    option_and_then (λ joins.
    Some (record { name = name; columns = columns; code_numbers = code_numbers; sort = sort; cuts = map cut_of cuts; site_numbers = site_numbers; joins = joins }))
    (texts_at (codes "joins") ms))
    (integers_at (codes "sites") ms))
    (array_at (codes "cuts") ms))
    (texts_at (codes "sort") ms))
    (integers_at (codes "codes") ms))
    (texts_at (codes "columns") ms))
    (text_at (codes "name") ms)

-- the safety that version 2 names, where version 1 means whole projections
abbrev pub safety_at : Members → Option (List ℕ)
safety_at ms = if is_version 2 ms then text_at (codes "safety") ms else Some (codes "whole")

abbrev pub document_of : Members → Option Document
document_of ms =
    option_and_then (λ table_name.
    option_and_then (λ key.
    option_and_then (λ site_count.
    option_and_then (λ safety.
    option_and_then (λ columns.
    option_and_then (λ projections.
    Some (record { table_name = table_name; key = key; site_count = site_count; safety = safety; columns = columns; projections = projections }))
    (tables_at projection_of (codes "projection") ms))
    (tables_at column_of (codes "column") ms))
    (safety_at ms))
    (integer_at (codes "sites") ms))
    (text_at (codes "key") ms))
    (text_at (codes "table") ms)

-- the texts that some references point to
abbrev pub texts : List (Bor (List ℕ)) → List (List ℕ)
texts = map (λ s. s.now)
