-- The places of rows after a recovery, and the entries of join indexes that lead to them.
use Rattle.std.specs.Prelude.{ℕ, ◌+◌, if◌then◌else◌, List, map, slice_index}
use Rattle.std.specs.List.{slice_get}
use Rattle.std.specs.Option.{option_and_then, option_map_or}
use Rattle.cs_schema.specs.CatalogData.{CatalogData}
use Rattle.cs_schema.specs.Losses.{lost, Sites}
use Rattle.cs_schema.specs.Rows.{Row, segment_of_row, project}
use Rattle.cs_schema.specs.Order.{rows_of, index_of}
use Rattle.cs_schema.specs.Lists.{numbers_below}
use Rattle.cs_delta.specs.Image.{ImageData, image_keys, position_of_key, fresh_image}
use Rattle.cs_jix.specs.JoinIndex.{Place, no_place}
use Rattle.cs_rows.specs.Walk.{Contents}

-- the image of a segment after the recovery: fresh if it was lost, else kept
abbrev pub image_after : CatalogData → Sites → Contents → List Row → ℕ → ℕ → ImageData
image_after C L S T p s = if lost C L p s then fresh_image (map (project C p) (rows_of C T p s)) else S.image p s

-- the place of a row of the table in q: its segment, and the key at its index there
abbrev pub place_of : CatalogData → Sites → Contents → List Row → ℕ → Row → Place
place_of C L S T q r =
    let t : ℕ = segment_of_row C q r in
    (t, option_map_or (λ i. slice_index (image_keys (image_after C L S T q t)) i) (index_of C T q r) 0)

-- the entry for a key: the place of its row, or no place if the key is dead
abbrev pub entry_for : CatalogData → Sites → Contents → List Row → ℕ → ℕ → ℕ → ℕ → Place
entry_for C L S T p s q key =
    option_map_or (λ r. place_of C L S T q r) (option_and_then (slice_get (rows_of C T p s)) (position_of_key (image_after C L S T p s) key)) no_place

abbrev pub entries_for : CatalogData → Sites → Contents → List Row → ℕ → ℕ → ℕ → List Place
entries_for C L S T p s q = map (λ i. entry_for C L S T p s q (i + 1)) (numbers_below (image_after C L S T p s).top)
