-- A loss within another has fewer sites, or is that loss.
use Rattle.std.proofs.Common.{◌≡◌, ℕ, ◌<◌, ◌≤◌, [], ◌∷◌, length, refl, sym, ap, ◌∙◌, arith, inl, inr, ◌⊎◌}
use Rattle.std.proofs.lemmas.Bool.{cases_lt}
use Rattle.std.specs.List.Sorted.{IsStrictlySortedBy}
use Rattle.std.specs.Ordering.{nat_cmp, ordering_then}
use Rattle.std.specs.Cmp.{nat_cmp_is}
use Rattle.std.specs.Cmp.Lexicographic.{slice_cmp}
use Rattle.std.specs.declared.cmp.Ordering.TheVariants.{Less, Greater}
use Rattle.cs_schema.specs.Lists.{IsIn}
use Rattle.cs_schema.specs.Losses.{Sites, loss_cmp}
use Rattle.cs_schema.proofs.Ascending.{less≢greater, All-in}
use Rattle.cs_schema.proofs.Lists.{member_in, in_member}
use Rattle.cs_safety.proofs.LossTails.{less_lt}
use Rattle.cs_safety.specs.Within.{IsWithin}

abbrev AreAmong : Sites → Sites → Type 0
AreAmong L M = (x : ℕ) → IsIn x L → IsIn x M

above_head : (x y : ℕ) (M : Sites) → IsStrictlySortedBy nat_cmp (x ∷ M) → IsIn y M → x < y
unfolding IsStrictlySortedBy
above_head x y M s h = less_lt x y (All-in (λ z. nat_cmp x z ≡ Less) M s.0 y h)

sorted_rest : (x : ℕ) (M : Sites) → IsStrictlySortedBy nat_cmp (x ∷ M) → IsStrictlySortedBy nat_cmp M
unfolding IsStrictlySortedBy
sorted_rest x M s = s.1

-- without the head of the larger, where the smaller begins above it
later : (y : ℕ) (L M : Sites) → ((x : ℕ) → IsIn x L → y < x) → AreAmong L (y ∷ M) → AreAmong L M
later y L M above a x h = go (a x h)
  where
    go : IsIn x (y ∷ M) → IsIn x M
    go (inl e) = let l = above x h in absurd (omega (arith, l, e))
    go (inr k) = k

fewer_or_same : (L M : Sites) → IsStrictlySortedBy nat_cmp L → IsStrictlySortedBy nat_cmp M → AreAmong L M → (length L < length M) ⊎ (L ≡ M)
fewer_or_same [] [] s t a = inr refl
fewer_or_same [] (y ∷ M) s t a = inl (omega arith)
fewer_or_same (x ∷ L) [] s t a = absurd (a x (inl refl))
fewer_or_same (x ∷ L) (y ∷ M) s t a =
    go (a x (inl refl)) (λ r b. fewer_or_same L M r (sorted_rest y M t) b) (λ b. fewer_or_same (x ∷ L) M s (sorted_rest y M t) b)
  where
    grown : (length L < length M) ⊎ (L ≡ M) → x ≡ y → (length (x ∷ L) < length (y ∷ M)) ⊎ (x ∷ L ≡ y ∷ M)
    grown (inl f) e = inl (omega (arith, f))
    grown (inr f) e = inr (cc (e, f))

    smaller : (length (x ∷ L) < length M) ⊎ (x ∷ L ≡ M) → (length (x ∷ L) < length (y ∷ M)) ⊎ (x ∷ L ≡ y ∷ M)
    smaller (inl f) = inl (omega (arith, f))
    smaller (inr f) = inl (let e : length (x ∷ L) ≡ length M = ap length f in omega (arith, e))

    above : IsIn x M → (z : ℕ) → IsIn z (x ∷ L) → y < z
    above k z (inl e) = let l = above_head y x M t k in omega (arith, l, e)
    above k z (inr h) = let l = above_head y x M t k in let m = above_head x z L s h in omega (arith, l, m)

    go : IsIn x (y ∷ M) → (IsStrictlySortedBy nat_cmp L → AreAmong L M → (length L < length M) ⊎ (L ≡ M)) → (AreAmong (x ∷ L) M → (length (x ∷ L) < length M) ⊎ (x ∷ L ≡ M))
        → (length (x ∷ L) < length (y ∷ M)) ⊎ (x ∷ L ≡ y ∷ M)
    go (inl e) f g = grown (f (sorted_rest x L s) (later y L M (λ z h. let l = above_head x z L s h in omega (arith, l, e)) (λ z h. a z (inr h)))) e
    go (inr k) f g = smaller (g (later y (x ∷ L) M (above k) a))

-- a loss within another has no more sites
pub within_size : (L M : Sites) → IsStrictlySortedBy nat_cmp L → IsStrictlySortedBy nat_cmp M → IsWithin L M → length L ≤ length M
within_size L M s t w = elim (fewer_or_same L M s t (λ x i. member_in M x (w x (in_member L x i)))) [ inl f ↦ omega (arith, f) | inr e ↦ (let l : length L ≡ length M = ap length e in omega (arith, l)) ]

-- a loss within another that has no fewer sites is that loss
pub same_loss : (L M : Sites) → IsStrictlySortedBy nat_cmp L → IsStrictlySortedBy nat_cmp M → IsWithin L M → length M ≤ length L → L ≡ M
same_loss L M s t w h = elim (fewer_or_same L M s t (λ x i. member_in M x (w x (in_member L x i)))) [ inl f ↦ absurd (omega (arith, f)) | inr e ↦ e ]

-- an earlier loss has no more sites
pub earlier_size : (L M : Sites) → loss_cmp L M ≡ Less → length L ≤ length M
earlier_size L M e = elim (cases_lt (length M) (length L)) [
  | inl h ↦ less≢greater (sym e ∙ ap (λ o. ordering_then o (slice_cmp nat_cmp L M)) (sym (nat_cmp_is (length L) (length M) Greater h)))
  | inr h ↦ h
]
