-- Texts as one block of bytes, and where each text ends in it.
use Rattle.std.specs.Prelude.{◌≡◌, ℕ, ◌+◌, ◌-◌, zero, suc, nat_le, Bool, true, ◌&&◌, List, [], ◌∷◌, length, take, drop, slice_index, slice_get, Some, ◌≤◌, IsUtf8, flat_map}
use Rattle.std.specs.List.{concat, list_all}
use Rattle.std.specs.Str.{is_utf8}

-- UTF-8 of at most 255 bytes
abbrev pub is_short_text : List ℕ → Bool
is_short_text s = is_utf8 s && nat_le (length s) 255

-- where each of the texts ends, of which the first starts at a place
unfoldable pub ends_from : ℕ → List (List ℕ) → List ℕ
ends_from start [] = []
ends_from start (t ∷ ts) = (start + length t) ∷ ends_from (start + length t) ts

-- the texts that end there, of which the first starts at a place
unfoldable pub pieces_from : ℕ → List ℕ → List ℕ → List (List ℕ)
pieces_from start bytes [] = []
pieces_from start bytes (e ∷ es) = take (e - start) bytes ∷ pieces_from e (drop (e - start) bytes) es

-- the texts of a block
abbrev pub pieces : List ℕ → List ℕ → List (List ℕ)
pieces bytes ends = pieces_from 0 bytes ends

-- where the text at a place starts, or the last one ends
abbrev pub start_at : List ℕ → ℕ → ℕ
start_at ends zero = 0
start_at ends (suc k) = slice_index ends k

-- the texts at some places of a list, in the order of the places
abbrev pub texts_at : {C : Type 0} → List C → List ℕ → List C
texts_at texts places = flat_map (λ place. take 1 (drop place texts)) places

-- the block is that of these texts
pub record IsBlockOf (texts : List (List ℕ)) (bytes ends : List ℕ) : Type 0 where
  pub joined : bytes ≡ concat texts
  pub ended : ends ≡ ends_from 0 texts
  pub short : list_all is_short_text texts ≡ true

-- the block is that of its texts
abbrev pub IsBlock : List ℕ → List ℕ → Type 0
IsBlock bytes ends = IsBlockOf (pieces bytes ends) bytes ends

-- the part of a block from one text up to another
pub record RangeOf (texts : List (List ℕ)) (bytes ends : List ℕ) (from to : ℕ) : Type 0 where
  pub order : start_at ends from ≤ start_at ends to
  pub within : start_at ends to ≤ length bytes
  pub joined : take (start_at ends to - start_at ends from) (drop (start_at ends from) bytes) ≡ concat (take (to - from) (drop from texts))
  pub ended : take (to - from) (drop from ends) ≡ ends_from (start_at ends from) (take (to - from) (drop from texts))
  pub short : list_all is_short_text (take (to - from) (drop from texts)) ≡ true

-- the text at a place of a block
pub record TextAt (texts : List (List ℕ)) (bytes ends : List ℕ) (at : ℕ) : Type 0 where
  pub order : start_at ends at ≤ slice_index ends at
  pub within : slice_index ends at ≤ length bytes
  pub text : slice_get texts at ≡ Some (take (slice_index ends at - start_at ends at) (drop (start_at ends at) bytes))
  pub fits : length (take (slice_index ends at - start_at ends at) (drop (start_at ends at) bytes)) ≤ 255
  pub utf8 : IsUtf8 (take (slice_index ends at - start_at ends at) (drop (start_at ends at) bytes))
