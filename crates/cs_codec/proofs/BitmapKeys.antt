-- The values that have a bitmap are the distinct values of the list, ascending.
use Rattle.std.proofs.Common.{◌≡◌, Bool, true, false, List, [], ◌∷◌, refl, sym, ap, subst, ◌∙◌, inl, inr, ◌⊎◌}
use Rattle.std.specs.List.{AllByRecursion}
use Rattle.std.specs.List.Sorted.{IsStrictlySortedBy}
use Rattle.std.specs.Cmp.{IsTotalOrder}
use Rattle.std.specs.Ordering.{ordering_reverse}
use Rattle.std.specs.declared.cmp.Ordering.{Ordering}
use Rattle.std.specs.declared.cmp.Ordering.TheVariants.{Less, Equal, Greater}
use Rattle.std.proofs.lemmas.Cmp.{tied_itself}
use Rattle.std.proofs.lemmas.Map.Keys.{sorted_head, sorted_tail}
use Rattle.cs_codec.specs.Texts.{insert_value, place_value, distinct_values}

pub by_test : {P : Type 0} (b : Bool) → (b ≡ true → P) → (b ≡ false → P) → P
by_test true f g = f refl
by_test false f g = g refl

-- q is in the list
abbrev pub In : {C : Type 0} → C → List C → Type 0
In q [] = ⊥
In q (x ∷ xs) = (q ≡ x) ⊎ In q xs

pub in_all : {C : Type 0} (P : C → Type 0) (q : C) (xs : List C) → AllByRecursion P xs → In q xs → P q
in_all P q [] h m = absurd m
in_all P q (x ∷ xs) h (inl e) = subst P (sym e) h.0
in_all P q (x ∷ xs) h (inr m) = in_all P q xs h.1 m

not_both : {C : Type 0} (cmp : C → C → Ordering) (o : IsTotalOrder cmp) (x y : C) → cmp x y ≡ Less → cmp y x ≡ Less → ⊥
not_both cmp o x y e f =
    let g : Less ≡ ordering_reverse Less = sym e ∙ o.antisymm x y ∙ ap ordering_reverse f in
    absurd cc

pub not_itself : {C : Type 0} (cmp : C → C → Ordering) (o : IsTotalOrder cmp) (x : C) → cmp x x ≡ Less → ⊥
not_itself cmp o x e =
    let f = tied_itself o x in
    absurd cc

-- two ascending lists with the same values are equal
pub same_sorted : {C : Type 0} (cmp : C → C → Ordering) (o : IsTotalOrder cmp) (xs ys : List C) → IsStrictlySortedBy cmp xs → IsStrictlySortedBy cmp ys → ((q : C) → In q xs → In q ys) → ((q : C) → In q ys → In q xs) → xs ≡ ys
same_sorted cmp o [] [] sx sy f g = refl
same_sorted cmp o [] (y ∷ ys) sx sy f g = absurd (g y (inl refl))
same_sorted cmp o (x ∷ xs) [] sx sy f g = absurd (f x (inl refl))
same_sorted {C} cmp o (x ∷ xs) (y ∷ ys) sx sy f g =
    let above_x = sorted_head cmp x xs sx in
    let above_y = sorted_head cmp y ys sy in
    let heads : x ≡ y = by_heads (f x (inl refl)) (g y (inl refl)) above_x above_y in
    let rest = same_sorted cmp o xs ys (sorted_tail cmp x xs sx) (sorted_tail cmp y ys sy)
    (λ q m. past q y ys (f q (inr m)) (subst (λ (z : C). cmp z q ≡ Less) heads (in_all (λ z. cmp x z ≡ Less) q xs above_x m)))
    (λ q m. past q x xs (g q (inr m)) (subst (λ (z : C). cmp z q ≡ Less) (sym heads) (in_all (λ z. cmp y z ≡ Less) q ys above_y m))) in
    ap (λ (z : C). z ∷ xs) heads ∙ ap (λ (zs : List C). y ∷ zs) rest
  where
    by_heads : In x (y ∷ ys) → In y (x ∷ xs) → AllByRecursion (λ z. cmp x z ≡ Less) xs → AllByRecursion (λ z. cmp y z ≡ Less) ys → x ≡ y
    by_heads (inl e) n ax ay = e
    by_heads (inr m) (inl e) ax ay = sym e
    by_heads (inr m) (inr n) ax ay = absurd (not_both cmp o x y (in_all (λ z. cmp x z ≡ Less) y xs ax n) (in_all (λ z. cmp y z ≡ Less) x ys ay m))

    past : (q z : C) (zs : List C) → In q (z ∷ zs) → cmp z q ≡ Less → In q zs
    past q z zs (inl e) less = absurd (not_itself cmp o z (subst (λ (w : C). cmp z w ≡ Less) e less))
    past q z zs (inr m) less = m

-- ---- the distinct values

all_placed : {C : Type 0} (P : C → Type 0) (o : Ordering) (x y : C) (ys deeper : List C) → P x → AllByRecursion P (y ∷ ys) → AllByRecursion P deeper → AllByRecursion P (place_value o x y ys deeper)
all_placed P Less x y ys deeper h hs d = (h, hs)
all_placed P Equal x y ys deeper h hs d = hs
all_placed P Greater x y ys deeper h hs d = (hs.0, d)

all_inserted : {C : Type 0} (P : C → Type 0) (cmp : C → C → Ordering) (x : C) (ys : List C) → P x → AllByRecursion P ys → AllByRecursion P (insert_value cmp x ys)
all_inserted P cmp x [] h hs = (h, tt)
all_inserted P cmp x (y ∷ ys) h hs = all_placed P (cmp x y) x y ys (insert_value cmp x ys) h hs (all_inserted P cmp x ys h hs.1)

pub below_too : {C : Type 0} (cmp : C → C → Ordering) (o : IsTotalOrder cmp) (x y : C) (ys : List C) → cmp x y ≡ Less → AllByRecursion (λ z. cmp y z ≡ Less) ys → AllByRecursion (λ z. cmp x z ≡ Less) ys
below_too cmp o x y [] e h = tt
below_too cmp o x y (z ∷ ys) e h = (o.trans x y z e h.0, below_too cmp o x y ys e h.1)

sorted_placed : {C : Type 0} (cmp : C → C → Ordering) (o : IsTotalOrder cmp) (c : Ordering) (x y : C) (ys : List C) → cmp x y ≡ c → IsStrictlySortedBy cmp (y ∷ ys) → IsStrictlySortedBy cmp (insert_value cmp x ys) → IsStrictlySortedBy cmp (place_value c x y ys (insert_value cmp x ys))
unfolding IsStrictlySortedBy
sorted_placed cmp o Less x y ys e s d = ((e, below_too cmp o x y ys e s.0), s)
sorted_placed cmp o Equal x y ys e s d = s
sorted_placed cmp o Greater x y ys e s d = (all_inserted (λ z. cmp y z ≡ Less) cmp x ys (o.antisymm y x ∙ ap ordering_reverse e) s.0, d)

sorted_inserted : {C : Type 0} (cmp : C → C → Ordering) (o : IsTotalOrder cmp) (x : C) (ys : List C) → IsStrictlySortedBy cmp ys → IsStrictlySortedBy cmp (insert_value cmp x ys)
unfolding IsStrictlySortedBy
sorted_inserted cmp o x [] s = (tt, tt)
sorted_inserted cmp o x (y ∷ ys) s = sorted_placed cmp o (cmp x y) x y ys refl s (sorted_inserted cmp o x ys s.1)

pub sorted_distinct : {C : Type 0} (cmp : C → C → Ordering) (o : IsTotalOrder cmp) (xs : List C) → IsStrictlySortedBy cmp (distinct_values cmp xs)
unfolding IsStrictlySortedBy
sorted_distinct cmp o [] = tt
sorted_distinct cmp o (x ∷ xs) = sorted_inserted cmp o x (distinct_values cmp xs) (sorted_distinct cmp o xs)

in_placed : {C : Type 0} (c : Ordering) (q x y : C) (ys deeper : List C) → (In q deeper → In q (x ∷ ys)) → In q (place_value c x y ys deeper) → In q (x ∷ y ∷ ys)
in_placed Less q x y ys deeper h m = m
in_placed Equal q x y ys deeper h m = inr m
in_placed Greater q x y ys deeper h (inl e) = inr (inl e)
in_placed Greater q x y ys deeper h (inr m) = swap_in (h m)
  where
    swap_in : In q (x ∷ ys) → In q (x ∷ y ∷ ys)
    swap_in (inl e) = inl e
    swap_in (inr n) = inr (inr n)

in_inserted : {C : Type 0} (cmp : C → C → Ordering) (q x : C) (ys : List C) → In q (insert_value cmp x ys) → In q (x ∷ ys)
in_inserted cmp q x [] m = m
in_inserted cmp q x (y ∷ ys) m = in_placed (cmp x y) q x y ys (insert_value cmp x ys) (in_inserted cmp q x ys) m

pub from_distinct : {C : Type 0} (cmp : C → C → Ordering) (q : C) (xs : List C) → In q (distinct_values cmp xs) → In q xs
from_distinct cmp q [] m = m
from_distinct cmp q (x ∷ xs) m = by_place (in_inserted cmp q x (distinct_values cmp xs) m) (from_distinct cmp q xs)
  where
    by_place : In q (x ∷ distinct_values cmp xs) → (In q (distinct_values cmp xs) → In q xs) → In q (x ∷ xs)
    by_place (inl e) h = inl e
    by_place (inr n) h = inr (h n)

to_placed : {C : Type 0} (c : Ordering) (q x y : C) (ys deeper : List C) → (c ≡ Equal → x ≡ y) → (In q (x ∷ ys) → In q deeper) → In q (x ∷ y ∷ ys) → In q (place_value c x y ys deeper)
to_placed Less q x y ys deeper t h m = m
to_placed Equal q x y ys deeper t h (inl e) = inl (e ∙ t refl)
to_placed Equal q x y ys deeper t h (inr m) = m
to_placed Greater q x y ys deeper t h (inl e) = inr (h (inl e))
to_placed Greater q x y ys deeper t h (inr (inl e)) = inl e
to_placed Greater q x y ys deeper t h (inr (inr m)) = inr (h (inr m))

to_inserted : {C : Type 0} (cmp : C → C → Ordering) (tie : (x y : C) → cmp x y ≡ Equal → x ≡ y) (q x : C) (ys : List C) → In q (x ∷ ys) → In q (insert_value cmp x ys)
to_inserted cmp tie q x [] m = m
to_inserted cmp tie q x (y ∷ ys) m = to_placed (cmp x y) q x y ys (insert_value cmp x ys) (tie x y) (to_inserted cmp tie q x ys) m

pub to_distinct : {C : Type 0} (cmp : C → C → Ordering) (tie : (x y : C) → cmp x y ≡ Equal → x ≡ y) (q : C) (xs : List C) → In q xs → In q (distinct_values cmp xs)
to_distinct cmp tie q [] m = m
to_distinct cmp tie q (x ∷ xs) m = to_inserted cmp tie q x (distinct_values cmp xs) (by_place m (to_distinct cmp tie q xs))
  where
    by_place : In q (x ∷ xs) → (In q xs → In q (distinct_values cmp xs)) → In q (x ∷ distinct_values cmp xs)
    by_place (inl e) h = inl e
    by_place (inr n) h = inr (h n)
