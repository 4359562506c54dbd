-- The number of sites of two losses that share some.
use Rattle.std.proofs.Common.{◌≡◌, ℕ, suc, ◌+◌, ◌<◌, ◌≤◌, ◌++◌, ◌⊎◌, Bool, true, false, not, cond, List, [], ◌∷◌, length, length-append, refl, ap, arith, inl, inr, Ordering}
use Rattle.std.specs.Prelude.{IsTrue}
use Rattle.std.specs.List.{filter}
use Rattle.std.specs.List.Sorted.{IsStrictlySortedBy}
use Rattle.std.specs.Ordering.{nat_cmp}
use Rattle.std.specs.Cmp.{nat_cmp_total}
use Rattle.std.specs.FinMap.{nat_cmp-IsAntisymmetric}
use Rattle.std.specs.declared.cmp.Ordering.TheVariants.{Less, Equal, Greater}
use Rattle.std.proofs.lemmas.List.Kept.{IsStrictlySortedBy-filter}
use Rattle.cs_schema.specs.Lists.{member, IsIn}
use Rattle.cs_schema.specs.CatalogData.{CatalogData}
use Rattle.cs_schema.specs.Losses.{Sites, IsLoss}
use Rattle.cs_schema.specs.Order.{placed, ascending, by_order}
use Rattle.cs_safety.specs.Within.{IsWithin}
use Rattle.cs_schema.proofs.Ascending.{All-in, ascending_sorted, in_ascending, ascending_in, in_filter, filter_in}
use Rattle.cs_schema.proofs.Lists.{member_in, in_member, append_left, append_right, in_append}
use Rattle.cs_safety.proofs.LossTails.{less_lt}

-- ---- a loss that contains another

abbrev AreAmong : Sites → Sites → Type 0
AreAmong L M = (x : ℕ) → IsIn x L → IsIn x M

above_head : (x y : ℕ) (M : Sites) → IsStrictlySortedBy nat_cmp (x ∷ M) → IsIn y M → x < y
unfolding IsStrictlySortedBy
above_head x y M s h = less_lt x y (All-in (λ z. nat_cmp x z ≡ Less) M s.0 y h)

sorted_rest : (x : ℕ) (M : Sites) → IsStrictlySortedBy nat_cmp (x ∷ M) → IsStrictlySortedBy nat_cmp M
unfolding IsStrictlySortedBy
sorted_rest x M s = s.1

-- without the first site of the larger loss, if the smaller one starts above it
later : (y : ℕ) (L M : Sites) → ((x : ℕ) → IsIn x L → y < x) → AreAmong L (y ∷ M) → AreAmong L M
later y L M above a x h = go (a x h)
  where
    go : IsIn x (y ∷ M) → IsIn x M
    go (inl e) = let l = above x h in absurd (omega (arith, l, e))
    go (inr k) = k

fewer_or_same : (L M : Sites) → IsStrictlySortedBy nat_cmp L → IsStrictlySortedBy nat_cmp M → AreAmong L M → (length L < length M) ⊎ (L ≡ M)
fewer_or_same [] [] s t a = inr refl
fewer_or_same [] (y ∷ M) s t a = inl (omega arith)
fewer_or_same (x ∷ L) [] s t a = absurd (a x (inl refl))
fewer_or_same (x ∷ L) (y ∷ M) s t a =
    go (a x (inl refl)) (λ r b. fewer_or_same L M r (sorted_rest y M t) b) (λ b. fewer_or_same (x ∷ L) M s (sorted_rest y M t) b)
  where
    grown : (length L < length M) ⊎ (L ≡ M) → x ≡ y → (length (x ∷ L) < length (y ∷ M)) ⊎ (x ∷ L ≡ y ∷ M)
    grown (inl f) e = inl (omega (arith, f))
    grown (inr f) e = inr (cc (e, f))

    smaller : (length (x ∷ L) < length M) ⊎ (x ∷ L ≡ M) → (length (x ∷ L) < length (y ∷ M)) ⊎ (x ∷ L ≡ y ∷ M)
    smaller (inl f) = inl (omega (arith, f))
    smaller (inr f) = inl (let e : length (x ∷ L) ≡ length M = ap length f in omega (arith, e))

    above : IsIn x M → (z : ℕ) → IsIn z (x ∷ L) → y < z
    above k z (inl e) = let l = above_head y x M t k in omega (arith, l, e)
    above k z (inr h) = let l = above_head y x M t k in let m = above_head x z L s h in omega (arith, l, m)

    go : IsIn x (y ∷ M) → (IsStrictlySortedBy nat_cmp L → AreAmong L M → (length L < length M) ⊎ (L ≡ M)) → (AreAmong (x ∷ L) M → (length (x ∷ L) < length M) ⊎ (x ∷ L ≡ M))
        → (length (x ∷ L) < length (y ∷ M)) ⊎ (x ∷ L ≡ y ∷ M)
    go (inl e) f g = grown (f (sorted_rest x L s) (later y L M (λ z h. let l = above_head x z L s h in omega (arith, l, e)) (λ z h. a z (inr h)))) e
    go (inr k) f g = smaller (g (later y (x ∷ L) M (above k) a))

-- a loss within another does not have more sites
within_size : (L M : Sites) → IsStrictlySortedBy nat_cmp L → IsStrictlySortedBy nat_cmp M → IsWithin L M → length L ≤ length M
within_size L M s t w = elim (fewer_or_same L M s t (λ x i. member_in M x (w x (in_member L x i)))) [ inl f ↦ omega (arith, f) | inr e ↦ (let l : length L ≡ length M = ap length e in omega (arith, l)) ]

-- ---- the sites of two losses

placed_length : (x : ℕ) (ys : List ℕ) → length (placed nat_cmp x ys) ≤ suc (length ys)
placed_length x [] = omega arith
placed_length x (y ∷ ys) = go (nat_cmp x y) (placed_length x ys)
  where
    go : (o : Ordering) → length (placed nat_cmp x ys) ≤ suc (length ys) → length (by_order o (x ∷ y ∷ ys) (y ∷ ys) (y ∷ placed nat_cmp x ys)) ≤ suc (length (y ∷ ys))
    go Less h = omega arith
    go Equal h = omega arith
    go Greater h = omega arith

ascending_length : (xs : List ℕ) → length (ascending nat_cmp xs) ≤ length xs
ascending_length [] = omega arith
ascending_length (x ∷ xs) = let a = ascending_length xs in let b = placed_length x (ascending nat_cmp xs) in omega (arith, a, b)

parted : (p : ℕ → Bool) (xs : List ℕ) → length (filter p xs) + length (filter (λ x. not (p x)) xs) ≡ length xs
parted p [] = refl
parted p (x ∷ xs) = go (p x) (parted p xs)
  where
    go : (b : Bool) → length (filter p xs) + length (filter (λ y. not (p y)) xs) ≡ length xs
        → length (cond b (x ∷ filter p xs) (filter p xs)) + length (cond (not b) (x ∷ filter (λ y. not (p y)) xs) (filter (λ y. not (p y)) xs)) ≡ length (x ∷ xs)
    go true e = omega (arith, e)
    go false e = omega (arith, e)

module _ (shared B M : Sites) where
  -- the sites of the second that are not shared
  abbrev others : Sites
  others = filter (λ x. not (member shared x)) M

  -- the sites of either, ascending
  abbrev pub both : Sites
  both = ascending nat_cmp (B ++ others)

  in_both : (x : ℕ) → IsIn x (B ++ others) → IsTrue (member both x)
  in_both x i = in_member both x (ascending_in nat_cmp nat_cmp_total (B ++ others) (λ y z j k e. nat_cmp-IsAntisymmetric y z e) x i)

  pub first_in_both : IsWithin B both
  first_in_both x m = in_both x (append_left B others x (member_in B x m))

  pub second_in_both : IsWithin shared B → IsWithin M both
  second_in_both w x m = go (member shared x) refl
    where
      go : (b : Bool) → member shared x ≡ b → IsTrue (member both x)
      go true e = first_in_both x (w x e)
      go false e = in_both x (append_right B others x (filter_in (λ y. not (member shared y)) M x (member_in M x m) (ap not e)))

  pub loss_of_both : (C : CatalogData) → IsLoss C B → IsLoss C M → IsLoss C both
  loss_of_both C b m = (ascending_sorted nat_cmp nat_cmp_total (B ++ others), λ x e. go x (in_append B others x (in_ascending nat_cmp nat_cmp_total (B ++ others) x (member_in both x e))))
    where
      go : (x : ℕ) → IsIn x B ⊎ IsIn x others → (1 ≤ x) × (x ≤ C.sites)
      go x (inl i) = b.1 x (in_member B x i)
      go x (inr i) = m.1 x (in_member M x (in_filter (λ y. not (member shared y)) M x i).0)

  -- shared sites are counted once
  pub few_both : IsStrictlySortedBy nat_cmp shared → IsStrictlySortedBy nat_cmp M → IsWithin shared M → length both + length shared ≤ length B + length M
  few_both s t w =
      let kept = filter (member shared) M in
      let all = within_size shared kept s (IsStrictlySortedBy-filter nat_cmp (member shared) M t) (λ x m. in_member kept x (filter_in (member shared) M x (member_in M x (w x m)) m)) in
      let parts = parted (member shared) M in
      let a = ascending_length (B ++ others) in
      let b : length (B ++ others) ≡ length B + length others = length-append B others in
      omega (arith, all, parts, a, b)
