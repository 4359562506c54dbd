-- What the tests say of paths, distances and suitable projections.
use Rattle.std.proofs.Common.{◌≡◌, ℕ, zero, suc, ◌<◌, ◌≤◌, ◌&&◌, Bool, true, false, sym, subst, ◌∙◌, arith, ◌⊎◌, inl, inr, length, slice_index, eqb-true, eq-eqb}
use Rattle.std.proofs.lemmas.Bool.{cases_lt}
use Rattle.cs_schema.proofs.Ascending.{false≢true}
use Rattle.cs_safety.proofs.Distances.{distance_below, path_exists, path_zero, last_step}
use Rattle.cs_schema.specs.CatalogData.{CatalogData}
use Rattle.cs_safety.specs.Paths.{Path, Step, IsReached, IsDistance, IsSuitable}
use Rattle.cs_safety.specs.NumberSets.{is_in, some_below}
use Rattle.cs_safety.specs.Reach.{IsGraphOf, within, Suits}
use Rattle.cs_safety.specs.declared.graph.Graph.{Graph}
use Rattle.cs_safety.proofs.Bounded.{or_cases, or_left, or_right, and_both, and_first, and_second, decide, some_at, some_from}

module _ (C : CatalogData) (g : Graph) (G : IsGraphOf C g) (o : ℕ) (open_to : ℕ → Bool) (same : (q : ℕ) → q < g.count → is_in o q ≡ open_to q) (a : ℕ) (exists : a < g.count) where
  there : a < length C.projections
  there = subst (λ n. a < n) G.count exists

  step : (p q : ℕ) → p < g.count → is_in o q ≡ true → is_in (slice_index g.joins p) q ≡ true → Step C open_to p q
  step p q h e j =
      let inside = G.inside p h q j in
      record { exists = subst (λ n. q < n) G.count inside; declared = sym (G.joins p h q) ∙ j; may_enter = sym (same q inside) ∙ e }

  pub within_path : (k q : ℕ) → within g o a k q ≡ true → (m : ℕ) × (m ≤ k) × Path C open_to a q m
  within_path zero q e = (0, omega arith, subst (λ w. Path C open_to a w 0) (sym (eqb-true q a e)) Path.start)
  within_path (suc k) q e =
      go (or_cases (within g o a k q) (is_in o q && some_below g.count (λ p. within g o a k p && is_in (slice_index g.joins p) q)) e) (λ p h. within_path k p h)
    where
      go : (within g o a k q ≡ true) ⊎ ((is_in o q && some_below g.count (λ p. within g o a k p && is_in (slice_index g.joins p) q)) ≡ true) → ((p : ℕ) → within g o a k p ≡ true → (m : ℕ) × (m ≤ k) × Path C open_to a p m) → (m : ℕ) × (m ≤ suc k) × Path C open_to a q m
      go (inl h) f = let r = f q h in let l : r.0 ≤ k = r.1 in (r.0, omega arith, r.2)
      go (inr h) f =
          let s = some_at g.count (λ p. within g o a k p && is_in (slice_index g.joins p) q) (and_second (is_in o q) _ h) in
          let r = f s.0 (and_first (within g o a k s.0) (is_in (slice_index g.joins s.0) q) s.2) in
          let l : r.0 ≤ k = r.1 in
          (suc r.0, omega arith, Path.join r.2 (step s.0 q s.1 (and_first (is_in o q) _ h) (and_second (within g o a k s.0) (is_in (slice_index g.joins s.0) q) s.2)))

  pub path_within : (q m : ℕ) → Path C open_to a q m → within g o a m q ≡ true
  path_within q zero h = eq-eqb q a (path_zero C open_to a q h)
  path_within q (suc m) h =
      let l = last_step C open_to a q m h in
      let p = l.0 in
      let here : p < g.count = subst (λ n. p < n) (sym G.count) (path_exists C open_to a there p m l.1) in
      let inside : q < g.count = subst (λ n. q < n) (sym G.count) l.2.exists in
      or_right (within g o a m q) _ (and_both (is_in o q) _ (same q inside ∙ l.2.may_enter)
      (some_from g.count (λ p. within g o a m p && is_in (slice_index g.joins p) q) p here
      (and_both (within g o a m p) (is_in (slice_index g.joins p) q) (path_within p m l.1) (G.joins p here q ∙ l.2.declared))))

  pub within_more : (k m q : ℕ) → k ≤ m → within g o a k q ≡ true → within g o a m q ≡ true
  within_more k zero q h e = let z : k ≡ 0 = omega arith in subst (λ n. within g o a n q ≡ true) z e
  within_more k (suc m) q h e = go (cases_lt m k) (λ l. within_more k m q l e)
    where
      go : (m < k) ⊎ (k ≤ m) → (k ≤ m → within g o a m q ≡ true) → within g o a (suc m) q ≡ true
      go (inl l) f = let z : k ≡ suc m = omega arith in subst (λ n. within g o a n q ≡ true) z e
      go (inr l) f = or_left (within g o a m q) _ (f l)

  pub distance : (m q : ℕ) → within g o a m q ≡ true → (k : ℕ) × (k ≤ m) × IsDistance C open_to a q k
  distance zero q e = let p = within_path 0 q e in (0, omega arith, record { path = subst (λ n. Path C open_to a q n) (none p.0 p.1) p.2; least = λ m h. omega arith })
    where
      none : (n : ℕ) → n ≤ 0 → n ≡ 0
      none n h = omega arith
  distance (suc m) q e = go (decide (within g o a m q)) (λ h. distance m q h) (within_path (suc m) q e)
    where
      after : within g o a m q ≡ false → (i : ℕ) → Path C open_to a q i → m < i
      after f i h = late (cases_lt m i)
        where
          late : (m < i) ⊎ (i ≤ m) → m < i
          late (inl l) = l
          late (inr l) = false≢true (sym f ∙ within_more i m q l (path_within q i h))

      go : (within g o a m q ≡ true) ⊎ (within g o a m q ≡ false) → (within g o a m q ≡ true → (k : ℕ) × (k ≤ m) × IsDistance C open_to a q k) → ((k : ℕ) × (k ≤ suc m) × Path C open_to a q k) → (k : ℕ) × (k ≤ suc m) × IsDistance C open_to a q k
      go (inl h) f p = let r = f h in let l : r.0 ≤ m = r.1 in (r.0, omega arith, r.2)
      go (inr h) f p =
          let l : m < p.0 = after h p.0 p.2 in
          let u : p.0 ≤ suc m = p.1 in
          (suc m, omega arith, record { path = subst (λ n. Path C open_to a q n) (omega arith) p.2; least = λ i w. let v = after h i w in omega (arith, v) })

  pub reached_within : (q : ℕ) → IsReached C open_to a q → within g o a 7 q ≡ true
  reached_within q r =
      let d = distance r.0 q (path_within q r.0 r.1) in
      let b = distance_below C open_to a there q d.0 d.2 in
      let few = G.few in
      let n = G.count in
      within_more d.0 7 q (omega (arith, b, few, n)) (path_within q d.0 d.2.path)

  pub is_suitable : Suits g o a → IsSuitable C open_to a
  is_suitable s = record {
    exists = there;
    may_start = sym (same a exists) ∙ s.may_start;
    columns = λ c h.
        let f = s.columns c (subst (λ n. c < n) (sym G.width) h) in
        let p = within_path 7 f.0 (and_first (within g o a 7 f.0) (is_in (slice_index g.columns f.0) c) f.2) in
        (f.0, ((p.0, p.2), sym (G.columns f.0 f.1 c) ∙ and_second (within g o a 7 f.0) (is_in (slice_index g.columns f.0) c) f.2));
  }

  pub suits : IsSuitable C open_to a → Suits g o a
  suits s = record {
    exists = exists;
    may_start = same a exists ∙ s.may_start;
    columns = λ c h.
        let f = s.columns c (subst (λ n. c < n) G.width h) in
        let b : f.0 < g.count = subst (λ n. f.0 < n) (sym G.count) (path_exists C open_to a there f.0 f.1.0.0 f.1.0.1) in
        (f.0, b, and_both (within g o a 7 f.0) (is_in (slice_index g.columns f.0) c) (reached_within f.0 f.1.0) (G.columns f.0 b c ∙ f.1.1));
  }
