-- What a fault shows of a text.
use Rattle.std.specs.Prelude.{ℕ, List, take}

-- its first 40 bytes
abbrev pub shown : List ℕ → List ℕ
shown text = take 40 text
