-- Elements that are kept, by marks.
use Rattle.std.proofs.Common.{◌≡◌, ℕ, ◌+◌, ◌-◌, ◌<◌, ◌≤◌, List, [], ◌∷◌, ◌++◌, length, map, take, drop, get_or, refl, sym, ap, ◌∙◌, arith, Bool, true, false, cond, append_assoc}
use Rattle.std.specs.Prelude.{All}
use Rattle.std.proofs.lemmas.List.{take_more, length-take-le, length-drop, get_or-drop, append-nil}
use Rattle.std.proofs.lemmas.List.Elements.{All-nil, All-cons, All-head, All-tail}
use Rattle.cs_rows.specs.Repeats.{unmarked}

-- one more element at the end
pub unmarked_push : {X : Type 0} (gs : List Bool) (xs : List X) (g : Bool) (x : X) → length gs ≡ length xs → unmarked (gs ++ g ∷ []) (xs ++ x ∷ []) ≡ unmarked gs xs ++ cond g [] (x ∷ [])
unmarked_push [] [] true x h = refl
unmarked_push [] [] false x h = refl
unmarked_push [] (y ∷ ys) g x h = absurd (omega (arith, h))
unmarked_push (b ∷ gs) [] g x h = absurd (omega (arith, h))
unmarked_push {X} (b ∷ gs) (y ∷ ys) g x h = go b (unmarked_push gs ys g x (omega (arith, h)))
  where
    go : (c : Bool) → unmarked (gs ++ g ∷ []) (ys ++ x ∷ []) ≡ unmarked gs ys ++ cond g [] (x ∷ []) → cond c (unmarked (gs ++ g ∷ []) (ys ++ x ∷ [])) (y ∷ unmarked (gs ++ g ∷ []) (ys ++ x ∷ [])) ≡ cond c (unmarked gs ys) (y ∷ unmarked gs ys) ++ cond g [] (x ∷ [])
    go true e = e
    go false e = ap (λ l. y ∷ l) e

pub unmarked_map : {X Y : Type 0} (f : X → Y) (gs : List Bool) (xs : List X) → unmarked gs (map f xs) ≡ map f (unmarked gs xs)
unmarked_map f [] xs = refl
unmarked_map f (g ∷ gs) [] = refl
unmarked_map {X} {Y} f (g ∷ gs) (x ∷ xs) = go g (unmarked_map f gs xs)
  where
    go : (c : Bool) → unmarked gs (map f xs) ≡ map f (unmarked gs xs) → cond c (unmarked gs (map f xs)) (f x ∷ unmarked gs (map f xs)) ≡ map f (cond c (unmarked gs xs) (x ∷ unmarked gs xs))
    go true e = e
    go false e = ap (λ l. f x ∷ l) e

-- the prefix with one more element
pub unmarked_more : {X : Type 0} (gs : List Bool) (xs : List X) (i : ℕ) (d : X) → length gs ≡ length xs → i < length gs → unmarked (take (i + 1) gs) (take (i + 1) xs) ≡ unmarked (take i gs) (take i xs) ++ cond (get_or gs i false) [] (get_or xs i d ∷ [])
unmarked_more gs xs i d same within =
    let l : length (take i gs) ≡ length (take i xs) = length-take-le i gs (omega arith) ∙ sym (length-take-le i xs (omega arith)) in
    (λ j. unmarked (take_more gs i false within j) (take_more xs i d (omega arith) j)) ∙ unmarked_push (take i gs) (take i xs) (get_or gs i false) (get_or xs i d) l

-- nothing is left of an empty list
pub unmarked_none : {X : Type 0} (gs : List Bool) → unmarked {X = X} gs [] ≡ []
unmarked_none [] = refl
unmarked_none (g ∷ gs) = refl

-- a list in two parts, the first with as many marks as elements
pub unmarked_split : {X : Type 0} (gs : List Bool) (xs ys : List X) → length xs ≤ length gs → unmarked gs (xs ++ ys) ≡ unmarked (take (length xs) gs) xs ++ unmarked (drop (length xs) gs) ys
unmarked_split gs [] ys h = refl
unmarked_split [] (x ∷ xs) ys h = absurd (omega arith)
unmarked_split {X} (g ∷ gs) (x ∷ xs) ys h = go g (unmarked_split gs xs ys (omega arith))
  where
    front : List X
    front = unmarked (take (length xs) gs) xs

    back : List X
    back = unmarked (drop (length xs) gs) ys

    go : (c : Bool) → unmarked gs (xs ++ ys) ≡ front ++ back → cond c (unmarked gs (xs ++ ys)) (x ∷ unmarked gs (xs ++ ys)) ≡ cond c front (x ∷ front) ++ back
    go true e = e
    go false e = ap (λ l. x ∷ l) e

-- what holds of each element holds of each unmarked one
pub unmarked_all : {X : Type 0} (P : X → Type 0) (gs : List Bool) (xs : List X) → All P xs → All P (unmarked gs xs)
unmarked_all P [] xs h = All-nil P
unmarked_all P (g ∷ gs) [] h = All-nil P
unmarked_all {X} P (g ∷ gs) (x ∷ xs) h = go g (unmarked_all P gs xs (All-tail P x xs h))
  where
    go : (c : Bool) → All P (unmarked gs xs) → All P (cond c (unmarked gs xs) (x ∷ unmarked gs xs))
    go true rest = rest
    go false rest = All-cons P x (unmarked gs xs) (All-head P x xs h) rest

-- one more element from an index on
pub run_more : {X : Type 0} (xs : List X) (from at : ℕ) (d : X) → from ≤ at → at < length xs → take (at + 1 - from) (drop from xs) ≡ take (at - from) (drop from xs) ++ get_or xs at d ∷ []
run_more xs from at d order within =
    let one : at + 1 - from ≡ at - from + 1 = omega (arith, order) in
    let there : at - from < length (drop from xs) = omega (arith, order, within, length-drop from xs) in
    let place : from + (at - from) ≡ at = omega (arith, order) in
    ap (λ n. take n (drop from xs)) one ∙ take_more (drop from xs) (at - from) d there
    ∙ ap (λ x. take (at - from) (drop from xs) ++ x ∷ []) (get_or-drop from xs (at - from) d ∙ ap (λ n. get_or xs n d) place)

-- an unmarked element extends a run
pub run_goes_on : {X : Type 0} (gs : List Bool) (xs old left : List X) (from at : ℕ) (d : X) → length gs ≡ length xs → at < length gs → from ≤ at → get_or gs at false ≡ false → left ++ take (at - from) (drop from xs) ≡ old ++ unmarked (take at gs) (take at xs) → left ++ take (at + 1 - from) (drop from xs) ≡ old ++ unmarked (take (at + 1) gs) (take (at + 1) xs)
run_goes_on {X} gs xs old left from at d same within order free e =
    let x = get_or xs at d in
    let run = take (at - from) (drop from xs) in
    let done = unmarked (take at gs) (take at xs) in
    ap (λ (l : List X). left ++ l) (run_more xs from at d order (omega (arith, within, same))) ∙ sym (append_assoc left run (x ∷ [])) ∙ ap (λ (l : List X). l ++ x ∷ []) e
    ∙ append_assoc old done (x ∷ []) ∙ ap (λ (l : List X). old ++ l) (sym (unmarked_more gs xs at d same within ∙ ap (λ (b : Bool). done ++ cond b [] (x ∷ [])) free))

-- a marked element ends a run, and the next run begins after it
pub run_stops : {X : Type 0} (gs : List Bool) (xs old left : List X) (from at : ℕ) (d : X) → length gs ≡ length xs → at < length gs → get_or gs at false ≡ true → left ++ take (at - from) (drop from xs) ≡ old ++ unmarked (take at gs) (take at xs) → (left ++ take (at - from) (drop from xs)) ++ take (at + 1 - (at + 1)) (drop (at + 1) xs) ≡ old ++ unmarked (take (at + 1) gs) (take (at + 1) xs)
run_stops {X} gs xs old left from at d same within marked e =
    let x = get_or xs at d in
    let done = unmarked (take at gs) (take at xs) in
    let all = left ++ take (at - from) (drop from xs) in
    let none : at + 1 - (at + 1) ≡ 0 = omega arith in
    ap (λ n. all ++ take n (drop (at + 1) xs)) none ∙ append-nil all ∙ e
    ∙ ap (λ (l : List X). old ++ l) (sym (unmarked_more gs xs at d same within ∙ ap (λ (b : Bool). done ++ cond b [] (x ∷ [])) marked ∙ append-nil done))
