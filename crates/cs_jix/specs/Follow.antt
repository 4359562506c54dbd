-- The row to which the entry of a key points.
use Rattle.std.specs.Prelude.{ℕ, List, Option}
use Rattle.std.specs.List.{slice_get}
use Rattle.std.specs.Option.{option_and_then, option_map}
use Rattle.cs_delta.specs.Image.{position_of_key}
use Rattle.cs_delta.specs.KindedImage.{KindedImage}
use Rattle.cs_jix.specs.JoinIndex.{Place, entry_at}

-- the image of segment t, if there is such a segment and its image is given
abbrev pub image_in : List (Option KindedImage) → ℕ → Option KindedImage
image_in images t = option_and_then (λ o. o) (slice_get images t)

-- the row to which an entry points, as its segment and its position in the image there, if the entry's key is live
abbrev pub landed_in : List (Option KindedImage) → Place → Option (ℕ × ℕ)
landed_in images e = option_and_then (λ m. option_map (λ i. (e.0, i)) (position_of_key m.image e.1)) (image_in images e.0)

-- the row to which the entry of a key points
abbrev pub followed : List Place → ℕ → List (Option KindedImage) → Option (ℕ × ℕ)
followed entries key images = option_and_then (landed_in images) (entry_at entries key)
