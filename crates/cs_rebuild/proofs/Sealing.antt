-- Bodies that are read apart from their digests, and files whose digests are right.
use Rattle.std.proofs.Common.{◌≡◌, ℕ, zero, suc, ◌-◌, ◌<◌, ◌++◌, ◌∷◌, [], List, Bor, length, refl, sym, ap, subst, ◌∙◌, true, Option, Some, None, inl, inr, arith, get_or, take}
use Rattle.std.specs.List.{All, range_with_len, slice_get}
use Rattle.std.proofs.lemmas.List.FromFn.{get_or-range_with_len, length-range_with_len}
use Rattle.std.specs.List.Sorted.{IsPermutation, IsStrictlySortedBy}
use Rattle.std.specs.declared.cmp.Ordering.TheVariants.{Less}
use Rattle.std.specs.Option.{option_map}
use Rattle.std.proofs.lemmas.List.Sorted.{All-permutation, IsPermutation-sym}
use Rattle.std.proofs.lemmas.Option.{get_or_from_slice_get, none-some, same_Some, slice_get-get_or, slice_get_within}
use Rattle.cs_schema.specs.declared.file_name.FileName.{FileName}
use Rattle.cs_schema.specs.FileNames.{FileContents, name_cmp}
use Rattle.cs_schema.specs.NameOrder.{name_cmp_total}
use Rattle.cs_schema.proofs.Ascending.{All-in, not_both, not_self}
use Rattle.cs_schema.specs.Lists.{IsIn}
use Rattle.cs_schema.proofs.Lists.{append_left, append_right, at_in, in_append, in_at}
use Rattle.cs_segment.specs.Bodies.{IsSealed}
use Rattle.cs_rebuild.specs.Reading.{AreSealedAmong, AreThere, reseal, resealed}

-- a file that ends in the digest of its body is as it was read
pub same_file : (F : FileContents) (n : FileName) → ((bytes : List ℕ) → F n ≡ Some bytes → bytes ≡ reseal bytes) → F n ≡ resealed F n
same_file F n is = go (F n) refl
  where
    go : (o : Option (List ℕ)) → F n ≡ o → o ≡ option_map reseal o
    go None e = refl
    go (Some bytes) e = ap Some (is bytes e)

-- ---- the files under some names

-- one more name, with a file
pub there_more : (F : FileContents) (names : List FileName) (n : FileName) (there : List (Bor (List ℕ))) (f : Bor (List ℕ)) → AreThere F names there → Some f.now ≡ F n → AreThere F (names ++ n ∷ []) (there ++ f ∷ [])
there_more F names n there f so is m bytes i e = elim (in_append names (n ∷ []) m i) [
  | inl before ↦ let r = so m bytes before e in (r.0, append_left there (f ∷ []) r.0 r.1, r.2)
  | inr last ↦ elim last [
    | inl here ↦ (f, append_right there (f ∷ []) f (inl refl), same_Some f.now bytes (is ∙ ap F (sym here) ∙ e))
    | inr none ↦ absurd none
  ]
]

-- one more name, without a file
pub not_there : (F : FileContents) (names : List FileName) (n : FileName) (there : List (Bor (List ℕ))) → AreThere F names there → None ≡ F n → AreThere F (names ++ n ∷ []) there
not_there F names n there so is m bytes i e = elim (in_append names (n ∷ []) m i) [
  | inl before ↦ so m bytes before e
  | inr last ↦ elim last [
    | inl here ↦ absurd (none-some bytes (is ∙ ap F (sym here) ∙ e))
    | inr none ↦ absurd none
  ]
]

-- ---- files in another order

each_in : {X : Type 0} (xs : List X) (x : X) → IsIn x xs → (P : X → Type 0) → All P xs → P x
each_in xs x is P all =
    let at = at_in xs x is in
    subst P (get_or_from_slice_get xs at.0 x x at.1) (all at.0 x (slice_get_within xs at.0 x at.1))

-- an element of a list is in its permutations
pub in_permuted : {X : Type 0} (xs ys : List X) → IsPermutation xs ys → (x : X) → IsIn x xs → IsIn x ys
in_permuted xs ys moved x is = each_in xs x is (λ y. IsIn y ys) (All-permutation (λ y. IsIn y ys) ys xs (IsPermutation-sym xs ys moved) (λ k d low. in_at ys k (get_or ys k d) (slice_get-get_or ys k d low)))

-- what holds of the files of each group holds of each file
pub each_told : (files : List (Bor (List ℕ))) (groups : List ℕ) (count : ℕ) → ((k : ℕ) → k < length files → get_or groups k 0 < count)
    → All (λ group. (k : ℕ) (f : Bor (List ℕ)) → slice_get files k ≡ Some f → get_or groups k 0 ≡ group → IsSealed f.now true) (range_with_len 0 (count - 0))
    → (f : Bor (List ℕ)) → IsIn f files → IsSealed f.now true
each_told files groups count below all f is =
    let at = at_in files f is in
    let group = get_or groups at.0 0 in
    let low : group < count - 0 = omega (arith, below at.0 (slice_get_within files at.0 f at.1)) in
    let here : get_or (range_with_len 0 (count - 0)) group 0 ≡ group = get_or-range_with_len 0 (count - 0) group 0 low ∙ (omega arith) in
    all group 0 (rw (length-range_with_len 0 (count - 0)) low) at.0 f at.1 (sym here)

-- ---- digests in the order of names

-- one more name, whose digest is right
pub sealed_more : (F : FileContents) (names : List FileName) (n : FileName) → AreSealedAmong F names → ((bytes : List ℕ) → F n ≡ Some bytes → bytes ≡ reseal bytes) → AreSealedAmong F (names ++ n ∷ [])
sealed_more F names n so is m bytes i e = elim (in_append names (n ∷ []) m i) [
  | inl before ↦ so m bytes before e
  | inr last ↦ elim last [ inl here ↦ is bytes (ap F (sym here) ∙ e) | inr none ↦ absurd none ]
]

-- a smaller name of an ascending list comes before
pub stands_before : (names : List FileName) → IsStrictlySortedBy name_cmp names → (i : ℕ) (d : FileName) → i < length names → (m : FileName) → IsIn m names → name_cmp m (get_or names i d) ≡ Less → IsIn m (take i names)
unfolding IsStrictlySortedBy
stands_before [] sorted i d low m is less = absurd is
stands_before (x ∷ xs) sorted zero d low m (inl e) less = not_self name_cmp name_cmp_total x (subst (λ z. name_cmp z x ≡ Less) e less)
stands_before (x ∷ xs) sorted zero d low m (inr k) less = not_both name_cmp name_cmp_total m x less (All-in (λ z. name_cmp x z ≡ Less) xs sorted.0 m k)
stands_before (x ∷ xs) sorted (suc i) d low m (inl e) less = inl e
stands_before (x ∷ xs) sorted (suc i) d low m (inr k) less = inr (stands_before xs sorted.1 i d (omega (arith, low)) m k less)
