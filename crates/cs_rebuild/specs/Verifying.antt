-- What comparing each surviving file with the table finds.
use Rattle.std.specs.Prelude.{◌≡◌, ◌+◌, ◌<◌, ◌≤◌, ℕ, Bool, true, not, List, map, Option, slice_index_or}
use Rattle.std.specs.List.{slice_get}
use Rattle.std.specs.Option.{option_and_then, unwrap_or}
use lib.Pointwise.{pointwise}
use Rattle.cs_store.specs.declared.fault.Fault.{Fault}
use Rattle.cs_schema.specs.CatalogData.{CatalogData}
use Rattle.cs_schema.specs.Losses.{Sites}
use Rattle.cs_schema.specs.Rows.{Row, project}
use Rattle.cs_schema.specs.Values.{value_eq}
use Rattle.cs_schema.specs.Order.{rows_of}
use Rattle.cs_delta.specs.Image.{image_rows}
use Rattle.cs_jix.specs.JoinIndex.{Place, no_place, entry_at}
use Rattle.cs_rows.specs.Walk.{Contents}
use Rattle.cs_recovery.specs.Tables.{when}
use Rattle.cs_recovery.specs.Holding.{agrees}
use Rattle.cs_schema.specs.Lists.{IsIn}
use Rattle.cs_recovery.specs.Places.{entries_for, entry_for}
use Rattle.cs_rebuild.specs.OnStore.{held_on, table_on}
use Rattle.cs_rebuild.specs.declared.places.ExpectedJoinIndex.{ExpectedJoinIndex}

-- the image of a segment does not have the table's rows
abbrev pub is_misplaced : CatalogData → Contents → List Row → ℕ × ℕ → Bool
is_misplaced C S T a = not (pointwise (pointwise value_eq) (image_rows (S.image a.0 a.1)) (map (project C a.0) (rows_of C T a.0 a.1)))

-- the fault of a segment, if any
abbrev pub misplaced_at : CatalogData → Contents → List Row → ℕ × ℕ → Option Fault
misplaced_at C S T a = when (is_misplaced C S T a) (Fault.Misplaced a.0 a.1)

abbrev pub ImageFaultAt : CatalogData → Contents → List Row → List (ℕ × ℕ) → ℕ → Option Fault → Type 0
ImageFaultAt C S T segments i fault = fault ≡ option_and_then (misplaced_at C S T) (slice_get segments i)

-- a join index does not lead to the places of its rows
abbrev pub is_misled : CatalogData → Sites → Contents → List Row → ℕ × ℕ × ℕ → Bool
is_misled C L S T a = not (pointwise (agrees C L a.2) (S.join a.0 a.1 a.2) (entries_for C L S T a.0 a.1 a.2))

-- the fault of a join index, if any
abbrev pub misled_at : CatalogData → Sites → Contents → List Row → ℕ × ℕ × ℕ → Option Fault
misled_at C L S T a = when (is_misled C L S T a) (Fault.Misled a.0 a.1 a.2)

abbrev pub JoinIndexFaultAt : CatalogData → Sites → Contents → List Row → List (ℕ × ℕ × ℕ) → ℕ → Option Fault → Type 0
JoinIndexFaultAt C L S T joins i fault = fault ≡ option_and_then (misled_at C L S T) (slice_get joins i)

-- the entry for a key as the file has it: an entry without a key has no segment
abbrev pub entry_or_zero : List Place → ℕ → Place
entry_or_zero entries key = unwrap_or (entry_at entries key) no_place

-- no entry of a join index has a segment and no key
abbrev pub HasNoKeylessPlace : List Place → Type 0
HasNoKeylessPlace entries = (e : Place) → IsIn e entries → e.1 ≡ 0 → e.0 ≡ 0

-- the entries for the keys above `from` and up to `to` agree with the expected ones
abbrev pub AreLed : ExpectedJoinIndex → List Place → ℕ → ℕ → Type 0
AreLed e entries from to =
    (m : ℕ) → from ≤ m → m < to
    → agrees e.store.now.catalog.now e.store.now.loss e.q (slice_index_or entries m no_place)
    (entry_for e.store.now.catalog.now e.store.now.loss (held_on e.store.now) (table_on e.store.now) e.p e.s e.q (m + 1)) ≡ true
