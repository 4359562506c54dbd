-- The places of rows.
use Rattle.std.specs.Prelude.{ℕ, ◌≡◌, ◌<◌, ◌≤◌, ◌/◌, ◌%◌, List, [], map, length, slice_get, slice_index, slice_index_or, Some, All, Contains}
use Rattle.cs_order.specs.declared.segments.ProjectionOrder.{ProjectionOrder}

-- the segments of each projection
abbrev pub segment_lists : List ProjectionOrder → List (List (List ℕ))
segment_lists = map (λ order. order.segments.items)

-- a place is a segment's number times 1,048,576, which is the maximum number of its rows, plus an index in the segment
abbrev pub segment_in : ℕ → ℕ
segment_in place = place / 1048576

abbrev pub index_in : ℕ → ℕ
index_in place = place % 1048576

-- the place of a row that is in segment s, whose rows these are
pub record IsThere (rows : List ℕ) (s row place : ℕ) : Type 0 where
  pub segment : segment_in place ≡ s
  pub index : slice_get rows (index_in place) ≡ Some row

-- each row that is in exactly one of these segments has its place there
abbrev pub ArePlacesIn : List (List ℕ) → List ℕ → Type 0
ArePlacesIn lists places =
    (s r : ℕ) → s < length lists → Contains (slice_index_or lists s []) r
    → ((t : ℕ) → t < length lists → Contains (slice_index_or lists t []) r → t ≡ s)
    → IsThere (slice_index_or lists s []) s r (slice_index places r)

-- the row is at this place in these segments
abbrev pub IsPlaceOf : List (List ℕ) → ℕ → ℕ → Type 0
IsPlaceOf lists row place = slice_get (slice_index_or lists (segment_in place) []) (index_in place) ≡ Some row

-- the row is in one of these segments
abbrev pub IsAmong : List (List ℕ) → ℕ → Type 0
IsAmong lists row = ((s : ℕ) → s < length lists → Contains (slice_index_or lists s []) row → ⊥) → ⊥

-- each row is in a segment, and at its place if it has one
pub record HasPlaces (rows : ℕ) (order : ProjectionOrder) : Type 0 where
  pub few : length order.segments.items ≤ 16
  pub short : All (λ list. length list ≤ 1048576) order.segments.items
  pub each : (r : ℕ) → r < rows → IsAmong order.segments.items r
  pub places : (r : ℕ) → r < rows → r < length order.places.items → IsPlaceOf order.segments.items r (slice_index order.places.items r)

abbrev pub HavePlaces : ℕ → List ProjectionOrder → Type 0
HavePlaces rows = All (HasPlaces rows)
