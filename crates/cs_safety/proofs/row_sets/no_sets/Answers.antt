use Rattle.std.proofs.Common.{◌≡◌, ℕ, zero, suc, ◌∷◌, [], Bool, true, false, not, refl, List}
use Rattle.std.specs.List.{list_all}
use Rattle.std.proofs.Math.ListN.{replicate}
use Rattle.cs_schema.proofs.Ascending.{false≢true}
use Rattle.cs_safety.specs.RowSets.{among}
use Rattle.cs_safety.proofs.row_sets.no_sets.Goals as goal

none_holds : (xs : List Bool) → list_all not xs ≡ true → (s : ℕ) → among xs s ≡ false
none_holds [] e s = refl
none_holds (true ∷ xs) e s = false≢true e
none_holds (false ∷ xs) e zero = refl
none_holds (false ∷ xs) e (suc s) = none_holds xs e s

pub returns-clause-none : goal.returns-clause-none
returns-clause-none c = none_holds (replicate 256 false) refl
