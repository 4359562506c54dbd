-- Lists that agree element by element, and the entries of a join index as its file has them.
use Rattle.std.proofs.Common.{◌≡◌, ◌≢◌, ℕ, zero, suc, ◌+◌, ◌<◌, List, [], ◌∷◌, map, length, refl, sym, ap, subst, ◌∙◌, Bool, true, false, cond, ◌&&◌, Some, None, arith, ◌==◌, eqb-true, get_or}
use Rattle.std.specs.List.{slice_get}
use Rattle.std.specs.Option.{unwrap_or}
use Rattle.std.proofs.lemmas.List.FromFn.{get_or-map-range_with_len, length-map-range_with_len}
use Rattle.std.proofs.lemmas.Option.{slice_get-get_or}
use lib.Pointwise.{pointwise}
use Rattle.cs_schema.specs.Lists.{IsIn, numbers_below}
use Rattle.cs_schema.proofs.Ascending.{false≢true}
use Rattle.cs_schema.proofs.Lists.{in_at}
use Rattle.cs_jix.specs.JoinIndex.{Place, no_place, placed_entry}
use Rattle.cs_rebuild.specs.Verifying.{entry_or_zero}

pub both : (a b : Bool) → a ≡ true → b ≡ true → (a && b) ≡ true
both true b e f = f
both false b e f = absurd (false≢true e)

pub first_of : (a b : Bool) → (a && b) ≡ true → a ≡ true
first_of true b e = refl
first_of false b e = e

pub rest_of : (a b : Bool) → (a && b) ≡ true → b ≡ true
rest_of true b e = e
rest_of false b e = absurd (false≢true e)

module _ {A B : Type 0} (E : A → B → Bool) where
  all_agree : (xs : List A) (ys : List B) (d : A) (e : B) → length xs ≡ length ys → ((m : ℕ) → m < length ys → E (get_or xs m d) (get_or ys m e) ≡ true) → pointwise E xs ys ≡ true
  all_agree [] [] d e l h = refl
  all_agree [] (y ∷ ys) d e l h = absurd (omega (arith, l))
  all_agree (x ∷ xs) [] d e l h = absurd (omega (arith, l))
  all_agree (x ∷ xs) (y ∷ ys) d e l h = both (E x y) (pointwise E xs ys) (h 0 (omega arith)) (all_agree xs ys d e (omega (arith, l)) (λ m k. h (suc m) (omega arith)))

  same_length : (xs : List A) (ys : List B) → pointwise E xs ys ≡ true → length xs ≡ length ys
  same_length [] [] h = refl
  same_length [] (y ∷ ys) h = absurd (false≢true h)
  same_length (x ∷ xs) [] h = absurd (false≢true h)
  same_length (x ∷ xs) (y ∷ ys) h = ap (λ n. suc n) (same_length xs ys (rest_of (E x y) (pointwise E xs ys) h))

  each_agrees : (xs : List A) (ys : List B) (d : A) (e : B) → pointwise E xs ys ≡ true → (m : ℕ) → m < length ys → E (get_or xs m d) (get_or ys m e) ≡ true
  each_agrees [] [] d e h m l = absurd (omega arith)
  each_agrees [] (y ∷ ys) d e h m l = absurd (false≢true h)
  each_agrees (x ∷ xs) [] d e h m l = absurd (false≢true h)
  each_agrees (x ∷ xs) (y ∷ ys) d e h zero l = first_of (E x y) (pointwise E xs ys) h
  each_agrees (x ∷ xs) (y ∷ ys) d e h (suc m) l = each_agrees xs ys d e (rest_of (E x y) (pointwise E xs ys) h) m (omega arith)

  module _ (f : ℕ → B) (xs : List A) (d : A) (e : B) (top : ℕ) where
    at : (m : ℕ) → m < top → get_or (map f (numbers_below top)) m e ≡ f m
    at m l = get_or-map-range_with_len f 0 top m m e l (omega arith)

    long : length (map f (numbers_below top)) ≡ top
    long = length-map-range_with_len f 0 top

    pub agree : length xs ≡ top → ((m : ℕ) → m < top → E (get_or xs m d) (f m) ≡ true) → pointwise E xs (map f (numbers_below top)) ≡ true
    agree l h =
        all_agree xs (map f (numbers_below top)) d e (l ∙ sym long)
        (λ m k. let below : m < top = omega (arith, k, long) in subst (λ y. E (get_or xs m d) y ≡ true) (sym (at m below)) (h m below))

    pub agreed : pointwise E xs (map f (numbers_below top)) ≡ true → (m : ℕ) → m < top → E (get_or xs m d) (f m) ≡ true
    agreed k m l = ap (E (get_or xs m d)) (sym (at m l)) ∙ each_agrees xs (map f (numbers_below top)) d e k m (omega (arith, l, long))

    pub other_length : length xs ≢ top → pointwise E xs (map f (numbers_below top)) ≡ false
    other_length n = go (pointwise E xs (map f (numbers_below top))) refl
      where
        go : (b : Bool) → pointwise E xs (map f (numbers_below top)) ≡ b → b ≡ false
        go true k = absurd (n (same_length xs (map f (numbers_below top)) k ∙ long))
        go false k = refl

-- if an entry without a key has no segment, the entry for a key is the stored one
pub raw_is : (xs : List Place) → ((e : Place) → IsIn e xs → e.1 ≡ 0 → e.0 ≡ 0) → (i : ℕ) → i < length xs → entry_or_zero xs (i + 1) ≡ get_or xs i no_place
raw_is xs h i l =
    ap (entry_or_zero xs) (let step : i + 1 ≡ suc i = omega arith in step) ∙ ap (λ o. unwrap_or (placed_entry o) no_place) there ∙ by_key ((get_or xs i no_place).1 == 0) refl
  where
    there : slice_get xs i ≡ Some (get_or xs i no_place)
    there = slice_get-get_or xs i no_place l

    by_key : (b : Bool) → ((get_or xs i no_place).1 == 0) ≡ b → unwrap_or (cond b None (Some (get_or xs i no_place))) no_place ≡ get_or xs i no_place
    by_key true e =
        let key : (get_or xs i no_place).1 ≡ 0 = eqb-true (get_or xs i no_place).1 0 e in
        let segment : (get_or xs i no_place).0 ≡ 0 = h (get_or xs i no_place) (in_at xs i (get_or xs i no_place) there) key in
        ap (λ n. (n, 0)) (sym segment) ∙ ap (λ n. ((get_or xs i no_place).0, n)) (sym key)
    by_key false e = refl
