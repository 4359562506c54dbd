-- Reading a cell into a column, and picking cells of one.
use Rattle.std.specs.Prelude.{◌≡◌, ℕ, List, [], ◌∷◌, ◌++◌, take, drop, flat_map}
use Rattle.cs_codec.specs.Cells.{StandsAt}

-- a cell is encoded at offset `start` of `text`, up to offset `end`, and was appended
pub record Reads {C : Type 0} (bytes : C → List ℕ) (is_cell : C → Type 0) (text : List ℕ) (start : ℕ) (before after : List C) (end : ℕ) : Type 0 where
  pub cell : C
  pub added : after ≡ before ++ cell ∷ []
  pub stands : StandsAt bytes is_cell text start cell end

-- the cells at some indices of a list, in the order of the indices
abbrev pub cells_at : {C : Type 0} → List C → List ℕ → List C
cells_at cells places = flat_map (λ place. take 1 (drop place cells)) places
