-- Worked examples of images of one and two layers, checked by computation.
use Rattle.std.proofs.Common.{◌≡◌, List, [], ◌∷◌, refl, pos}
use Rattle.cs_schema.specs.declared.cells.Value.{Value}
use Rattle.cs_segment.specs.SegmentFile.{Base}
use Rattle.cs_delta.specs.Image.{Change, base_pairs}
use Rattle.cs_delta.specs.Image.{layered}

abbrev base : Base
base = record { rows = 3; columns = (Value.Int (pos 10) ∷ Value.Int (pos 20) ∷ Value.Int (pos 30) ∷ []) ∷ [] }

abbrev lower : List Change
lower = Change.insert 0 4 (Value.Int (pos 5) ∷ []) ∷ Change.delete 1 ∷ Change.insert 3 5 (Value.Int (pos 40) ∷ []) ∷ []

abbrev upper : List Change
upper = Change.delete 0 ∷ Change.modify 2 0 (Value.Int (pos 31)) ∷ []

one_layer : layered (lower ∷ []) (base_pairs base) ≡ (4, Value.Int (pos 5) ∷ []) ∷ (1, Value.Int (pos 10) ∷ []) ∷ (3, Value.Int (pos 30) ∷ []) ∷ (5, Value.Int (pos 40) ∷ []) ∷ []
one_layer = refl

two_layers : layered (lower ∷ upper ∷ []) (base_pairs base) ≡ (1, Value.Int (pos 10) ∷ []) ∷ (3, Value.Int (pos 31) ∷ []) ∷ (5, Value.Int (pos 40) ∷ []) ∷ []
two_layers = refl
