use Rattle.std.proofs.Common.{ℕ, ◌<◌, List, get_or}
use Rattle.cs_rebuild.specs.Building.{IsShortText}
use Rattle.cs_rebuild.proofs.columns_of_rows.assert_text_bounds.Given as goal

abbrev pub invariant-loop-at : goal.invariant-loop-at
invariant-loop-at l = (k : ℕ) (d : List ℕ) → k < l.at → IsShortText (get_or l.texts k d)
