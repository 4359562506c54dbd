-- Storing what the files of segments hold, one segment after the other, the last one first.
use Rattle.std.proofs.Common.{◌≡◌, ◌≢◌, ℕ, suc, ◌+◌, ◌<◌, List, [], ◌∷◌, ◌++◌, map, take, drop, length, refl, sym, ap, subst, ◌∙◌, ◌⊎◌, inl, inr, Option, Some, None, arith, append_assoc, length-append}
use Rattle.std.specs.Prelude.{MatchOption}
use Rattle.std.specs.List.{slice_get}
use Rattle.std.proofs.Math.Seq.{take-append_seam}
use Rattle.std.proofs.lemmas.List.{take-append-drop}
use Rattle.cs_schema.specs.CatalogData.{CatalogData, has_join}
use Rattle.cs_schema.specs.Lists.{IsIn, numbers_below}
use Rattle.cs_schema.proofs.Ascending.{in_filter}
use Rattle.cs_schema.proofs.Lists.{in_range}
use Rattle.cs_jix.specs.JoinIndex.{Place}
use Rattle.cs_rebuild.specs.Reading.{joins_of}
use Rattle.cs_rebuild.proofs.Numbers.{by_equal}

at_end : {X : Type 0} (xs ys : List X) (x : X) → slice_get (xs ++ x ∷ ys) (length xs) ≡ Some x
at_end [] ys x = refl
at_end (z ∷ zs) ys x = at_end zs ys x

-- taking the last of the first elements of a list leaves those before it, and its index is their number
pub popped : {X : Type 0} (all rest new : List X) (x : X) → rest ≡ take (length rest) all → rest ≡ new ++ x ∷ [] → (new ≡ take (length new) all) × (slice_get all (length new) ≡ Some x)
popped all rest new x prefix split =
    let whole : all ≡ new ++ x ∷ drop (length rest) all = sym (take-append-drop (length rest) all) ∙ ap (λ l. l ++ drop (length rest) all) (sym prefix ∙ split) ∙ append_assoc new (x ∷ []) (drop (length rest) all) in
    (sym (ap (take (length new)) whole ∙ take-append_seam new (x ∷ drop (length rest) all)), ap (λ l. slice_get l (length new)) whole ∙ at_end new (drop (length rest) all) x)

pub one_less : {X : Type 0} (rest new : List X) (x : X) → rest ≡ new ++ x ∷ [] → length rest ≡ length new + 1
one_less rest new x split = ap length split ∙ length-append new (x ∷ [])

-- an element of a list has an index
pub place_in : {X : Type 0} (xs : List X) (x : X) → IsIn x xs → (k : ℕ) × (slice_get xs k ≡ Some x)
place_in [] x h = absurd h
place_in (y ∷ ys) x (inl e) = (0, ap Some (sym e))
place_in (y ∷ ys) x (inr h) = let r = place_in ys x h in (suc r.0, r.1)

-- two different segments differ in one of their numbers
pub apart : (t u p s : ℕ) → ((t ≡ p) × (u ≡ s) → ⊥) → (t ≢ p) ⊎ (u ≢ s)
apart t u p s h = by_equal t p (λ e. inr (λ k. h (e, k))) (λ n. inl n)

map_in : {X : Type 0} (f : X → ℕ) (xs : List X) (x : X) → IsIn x xs → IsIn (f x) (map f xs)
map_in f [] x h = absurd h
map_in f (y ∷ ys) x (inl e) = inl (ap f e)
map_in f (y ∷ ys) x (inr h) = inr (map_in f ys x h)

-- the target of a join index that was read is a projection of the catalog
pub target_below : (C : CatalogData) (p : ℕ) (joins : List (ℕ × List Place)) → map (λ j. j.0) joins ≡ joins_of C p → (j : ℕ × List Place) → IsIn j joins → j.0 < length C.projections
target_below C p joins targets j i =
    let declared = in_filter (has_join C p) (numbers_below (length C.projections)) j.0 (subst (IsIn j.0) targets (map_in (λ (k : ℕ × List Place). k.0) joins j i)) in
    let range = in_range 0 (length C.projections) j.0 declared.0 in
    omega (arith, range.1)

-- what a call states if it returns no result
pub no_rest : {X A : Type 0} (B : X → Type 0) (r : Option X) → ((x : X) → r ≡ Some x → ⊥) → MatchOption r A B → A
no_rest B None h m = m
no_rest B (Some x) h m = absurd (h x refl)
