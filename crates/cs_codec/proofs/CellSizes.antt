-- The number of bytes of encoded cells.
use Rattle.std.proofs.Common.{◌≡◌, ℕ, ◌+◌, ◌<◌, ◌≤◌, List, [], ◌∷◌, length, refl, arith}
use Rattle.std.specs.List.{concat}
use Rattle.std.proofs.lemmas.List.{length-append}
use Rattle.cs_codec.specs.Cells.{text_cell}
use Rattle.cs_codec.specs.Texts.{plain_text}

-- a cell has at least one byte
pub cells_below : {C : Type 0} (bytes : C → List ℕ) → ((x : C) → 0 < length (bytes x)) → (xs : List C) → length xs ≤ length (plain_text bytes xs)
cells_below bytes some [] = omega arith
cells_below bytes some (x ∷ xs) = omega (arith, some x, cells_below bytes some xs, length-append (bytes x) (plain_text bytes xs))

-- a text has its own bytes, and one for its length
pub texts_size : (texts : List (List ℕ)) → length (plain_text text_cell texts) ≡ length (concat texts) + length texts
texts_size [] = refl
texts_size (t ∷ ts) = omega (arith, texts_size ts, length-append t (plain_text text_cell ts), length-append t (concat ts))
