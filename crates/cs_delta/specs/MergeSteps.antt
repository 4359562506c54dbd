-- A merge by steps: what it has made of the first elements of a list, and what is left to make.
use Rattle.std.specs.Prelude.{◌≡◌, ℕ, List, ◌∷◌, ◌++◌, length, drop}
use Rattle.cs_delta.specs.Image.{Change}
use Rattle.cs_delta.specs.Edits.{Edit, edited_from, AreEdits}

-- the target is `out`, followed by the elements from `done` on with the edits `es`
pub record Makes {X : Type 0} (base target out : List X) (done : ℕ) (es : List (Edit X)) : Type 0 where
  pub edits : AreEdits (length base) done es
  pub parts : target ≡ out ++ edited_from es done (drop done base)

-- applying the item takes a merge from `out` and `done` to `new` and `next`, whatever follows and whatever the target
-- is
abbrev pub Steps : {X : Type 0} → (List Change → List (Edit X)) → List X → Change → List X → ℕ → List X → ℕ → Type 0
Steps {X} edits base item out done new next = (rest : List Change) (target : List X) → Makes base target out done (edits (item ∷ rest)) → Makes base target new next (edits rest)
