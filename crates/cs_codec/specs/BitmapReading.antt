-- Reading the bytes of bitmaps.
use Rattle.std.specs.Prelude.{◌≡◌, ◌≢◌, ℕ, ◌≤◌, ◌^◌, ◌<◌, Bool, List, [], ◌∷◌, ◌++◌, length, drop, slice_get, slice_index, slice_index_or, flat_map, Option, Some, None}
use Rattle.std.specs.List.{AllByRecursion}
use Rattle.std.specs.declared.cmp.Ordering.{Ordering}
use Rattle.cs_codec.specs.Cells.{number}
use Rattle.cs_codec.specs.Encodings.{IsColumn, IsShort}
use Rattle.cs_codec.specs.Bitmaps.{AreNumbers}
use Rattle.cs_codec.specs.Columns.{cells_at}
use Rattle.cs_codec.specs.Texts.{distinct_values, bitmap_lengths, bitmap_text, bitmaps_text}

-- the only `count` numbers at offset `start`, up to the end found, or that there are none
abbrev pub ReadsNumbers : List ℕ → ℕ → ℕ → List ℕ → Option ℕ → Type 0
ReadsNumbers bytes start count numbers None = (ls rest : List ℕ) → length ls ≡ count → AreNumbers ls → drop start bytes ≡ flat_map number ls ++ rest → ⊥
ReadsNumbers bytes start count numbers (Some end) = (start ≤ end) × (end ≤ length bytes) × ((ls rest : List ℕ) → length ls ≡ count → AreNumbers ls → drop start bytes ≡ flat_map number ls ++ rest → (numbers ≡ ls) × (drop end bytes ≡ rest))

-- the only numbers, preceded by their count, at offset `start`, up to the end found, or that there are none
abbrev pub ReadsLengths : List ℕ → ℕ → List ℕ → Option ℕ → Type 0
ReadsLengths bytes start numbers None = (ls rest : List ℕ) → length ls < 2 ^ 32 → AreNumbers ls → drop start bytes ≡ number (length ls) ++ (flat_map number ls ++ rest) → ⊥
ReadsLengths bytes start numbers (Some end) = (start ≤ end) × (end ≤ length bytes) × ((ls rest : List ℕ) → length ls < 2 ^ 32 → AreNumbers ls → drop start bytes ≡ number (length ls) ++ (flat_map number ls ++ rest) → (numbers ≡ ls) × (drop end bytes ≡ rest))

-- at offset `start` of `text` are the entry of value x, with these lengths, and then `rest`
pub record EntryAt {C : Type 0} (bytes : C → List ℕ) (is_cell : C → Type 0) (text : List ℕ) (start : ℕ) (x : C) (ls rest : List ℕ) : Type 0 where
  pub holds : is_cell x
  pub few : length ls < 2 ^ 32
  pub fit : AreNumbers ls
  pub parts : drop start text ≡ bytes x ++ (number (length ls) ++ (flat_map number ls ++ rest))

-- the only entry at offset `start`: its value, its lengths and its end, or that there is none
abbrev pub ReadsEntry : {C : Type 0} → (C → List ℕ) → (C → Type 0) → List ℕ → ℕ → List ℕ → Option (C × ℕ) → Type 0
ReadsEntry {C} bytes is_cell text start numbers None = (x : C) (ls rest : List ℕ) → EntryAt bytes is_cell text start x ls rest → ⊥
ReadsEntry {C} bytes is_cell text start numbers (Some found) = (start < found.1) × (found.1 ≤ length text) × is_cell found.0 × ((x : C) (ls rest : List ℕ) → EntryAt bytes is_cell text start x ls rest → (found.0 ≡ x) × (numbers ≡ ls) × (drop found.1 text ≡ rest))

-- the only entry at offset `start` has these lengths, and its value was appended
pub record AddsValue {C : Type 0} (bytes : C → List ℕ) (is_cell : C → Type 0) (text : List ℕ) (start : ℕ) (before after : List C) (numbers : List ℕ) (end : ℕ) : Type 0 where
  pub value : C
  pub added : after ≡ before ++ value ∷ []
  pub reads : ReadsEntry bytes is_cell text start numbers (Some (value, end))

-- the value of the only entry at offset `start` was appended, or there is no entry
abbrev pub AddsEntry : {C : Type 0} → (C → List ℕ) → (C → Type 0) → List ℕ → ℕ → List C → List C → List ℕ → Option ℕ → Type 0
AddsEntry bytes is_cell text start before after numbers None = ReadsEntry bytes is_cell text start numbers None
AddsEntry bytes is_cell text start before after numbers (Some end) = AddsValue bytes is_cell text start before after numbers end

-- each number is that of one of `count` values
abbrev pub NameValues : List ℕ → ℕ → Type 0
NameValues numbers count = (k : ℕ) → k < length numbers → slice_index numbers k < count

-- each of `rows` rows has a number, and a column with this body has exactly these values, and in each row the value of
-- its number
pub record IsOnlyCandidate {C : Type 0} (bytes : C → List ℕ) (is_cell : C → Type 0) (eq : C → C → Bool) (cmp : C → C → Ordering) (text : List ℕ) (rows : ℕ) (values : List C) (numbers : List ℕ) : Type 0 where
  pub rows_are : length numbers ≡ rows
  pub below : NameValues numbers (length values)
  pub hold : AllByRecursion is_cell values
  pub values_are : (xs : List C) → IsColumn (bitmaps_text bytes eq cmp) IsShort is_cell text rows xs → values ≡ distinct_values cmp xs
  pub only : (xs : List C) → IsColumn (bitmaps_text bytes eq cmp) IsShort is_cell text rows xs → cells_at values numbers ≡ xs

-- each value's bitmap is that of the value in these cells
abbrev pub HaveBitmaps : {C : Type 0} → (C → C → Bool) → List C → List (List ℕ) → List C → Type 0
HaveBitmaps {C} eq values bitmaps cells = (n : ℕ) (x : C) → slice_get values n ≡ Some x → slice_index_or bitmaps n [] ≡ bitmap_lengths eq x cells

-- no bitmap is without ones
abbrev pub HaveOnes : List (List ℕ) → Type 0
HaveOnes bitmaps = (n : ℕ) → n < length bitmaps → slice_index_or bitmaps n [] ≢ []

-- the text is the values and their bitmaps, in turn
abbrev pub HaveText : {C : Type 0} → (C → List ℕ) → (C → C → Bool) → List C → List (List ℕ) → List ℕ → Type 0
HaveText {C} bytes eq values bitmaps text = (cells : List C) → HaveBitmaps eq values bitmaps cells → text ≡ flat_map (bitmap_text bytes eq cells) values

-- the text is not the values and their bitmaps, in turn
abbrev pub HaveOtherText : {C : Type 0} → (C → List ℕ) → (C → C → Bool) → List C → List (List ℕ) → List ℕ → Type 0
HaveOtherText {C} bytes eq values bitmaps text = (cells : List C) → HaveBitmaps eq values bitmaps cells → text ≡ flat_map (bitmap_text bytes eq cells) values → ⊥

-- no column of `rows` rows has this body under bitmaps
abbrev pub NoBitmaps : {C : Type 0} → (C → List ℕ) → (C → Type 0) → (C → C → Bool) → (C → C → Ordering) → List ℕ → ℕ → Type 0
NoBitmaps {C} bytes is_cell eq cmp text rows = (cells : List C) → IsColumn (bitmaps_text bytes eq cmp) IsShort is_cell text rows cells → ⊥
