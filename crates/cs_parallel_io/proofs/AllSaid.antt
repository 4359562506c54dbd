-- What holds of each result of a list.
use Rattle.std.proofs.Common.{All, List, [], ◌∷◌}
use Rattle.std.specs.List.{AllZip}
use Rattle.std.proofs.lemmas.List.Elements.{All-nil, All-cons}

pub all_right : {X Y : Type 0} (P : Y → Type 0) (xs : List X) (ys : List Y) → AllZip (λ x y. P y) xs ys → All P ys
all_right P [] [] h = All-nil P
all_right P [] (y ∷ ys) h = absurd h
all_right P (x ∷ xs) [] h = absurd h
all_right P (x ∷ xs) (y ∷ ys) h = All-cons P y ys h.0 (all_right P xs ys h.1)
