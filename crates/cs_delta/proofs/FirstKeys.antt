-- The positions of the keys 1, 2, 3, ..
use Rattle.std.proofs.Common.{◌≡◌, ℕ, zero, suc, ◌+◌, ◌-◌, ◌<◌, ◌≤◌, ◌==◌, ◌≢◌, ◌⊎◌, ⊎_elim, Bool, true, false, cond, map, Some, None, refl, sym, ◌∙◌, arith, eqb-true, eq-eqb}
use Rattle.std.specs.List.{range_with_len, position}
use Rattle.std.proofs.lemmas.Bool.{false≢true}
use Rattle.cs_delta.specs.Places.{first_place}
use Rattle.cs_delta.specs.KindedImage.{base_keys}
use Rattle.cs_delta.proofs.KeyPlaces.{is_key, place_none, place_some}

-- a key among a + 1, .., a + m
in_range : (key i a m : ℕ) → a < key → key ≤ a + m → first_place key i (map (λ x. x + 1) (range_with_len a m)) ≡ i + (key - a)
in_range key i a zero low high = absurd (omega arith)
in_range key i a (suc m) low high = go (a + 1 == key) refl (λ (l : a + 1 < key). in_range key (i + 1) (a + 1) m l (omega arith))
  where
    go : (b : Bool) → (a + 1 == key) ≡ b → (a + 1 < key → first_place key (i + 1) (map (λ x. x + 1) (range_with_len (a + 1) m)) ≡ i + 1 + (key - (a + 1))) → cond b (i + 1) (first_place key (i + 1) (map (λ x. x + 1) (range_with_len (a + 1) m))) ≡ i + (key - a)
    go true e h = let here : a + 1 ≡ key = eqb-true (a + 1) key e in omega (arith, here)
    go false e h =
        let other : a + 1 ≢ key = λ k. false≢true (sym e ∙ eq-eqb (a + 1) key k) in
        let above : a + 1 < key = omega (arith, other, low) in
        let same : i + 1 + (key - (a + 1)) ≡ i + (key - a) = omega arith in
        h above ∙ same

-- a key below them
below_range : (key i a m : ℕ) → key ≤ a → first_place key i (map (λ x. x + 1) (range_with_len a m)) ≡ 0
below_range key i a zero h = refl
below_range key i a (suc m) h = go (a + 1 == key) refl (below_range key (i + 1) (a + 1) m (omega arith))
  where
    go : (b : Bool) → (a + 1 == key) ≡ b → first_place key (i + 1) (map (λ x. x + 1) (range_with_len (a + 1) m)) ≡ 0 → cond b (i + 1) (first_place key (i + 1) (map (λ x. x + 1) (range_with_len (a + 1) m))) ≡ 0
    go true e rest = let here : a + 1 ≡ key = eqb-true (a + 1) key e in absurd (omega (arith, here, h))
    go false e rest = rest

above_range : (key i a m : ℕ) → a + m < key → first_place key i (map (λ x. x + 1) (range_with_len a m)) ≡ 0
above_range key i a zero h = refl
above_range key i a (suc m) h = go (a + 1 == key) refl (above_range key (i + 1) (a + 1) m (omega arith))
  where
    go : (b : Bool) → (a + 1 == key) ≡ b → first_place key (i + 1) (map (λ x. x + 1) (range_with_len (a + 1) m)) ≡ 0 → cond b (i + 1) (first_place key (i + 1) (map (λ x. x + 1) (range_with_len (a + 1) m))) ≡ 0
    go true e rest = let here : a + 1 ≡ key = eqb-true (a + 1) key e in absurd (omega (arith, here, h))
    go false e rest = rest

pub first_position : (key n : ℕ) → 0 < key → key ≤ n → Some (key - 1) ≡ position (is_key key) (base_keys n)
first_position key n low high =
    let place : key ≡ first_place key 0 (base_keys n) = (let e : key ≡ 0 + (key - 0) = omega arith in e) ∙ sym (in_range key 0 0 n low (omega arith)) in
    place_some key key (base_keys n) place (λ e. omega arith)

pub no_first_position : (key n : ℕ) → (key ≤ 0) ⊎ (n < key) → None ≡ position (is_key key) (base_keys n)
no_first_position key n h =
    ⊎_elim
    (λ (low : key ≤ 0). place_none key 0 (base_keys n) (sym (below_range key 0 0 n low)) refl)
    (λ (high : n < key). place_none key 0 (base_keys n) (sym (above_range key 0 0 n (omega arith))) refl)
    h
