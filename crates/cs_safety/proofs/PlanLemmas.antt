-- What the tests say of the plan.
use Rattle.std.proofs.Common.{◌≡◌, ℕ, zero, suc, ◌+◌, ◌<◌, ◌≤◌, ◌==◌, true, false, sym, subst, ◌∙◌, arith, ◌⊎◌, inl, inr, length, slice_index, eqb-true, eq-eqb, add-one}
use Rattle.std.proofs.lemmas.Bool.{cases_lt, cases_eq}
use Rattle.cs_schema.proofs.Ascending.{false≢true}
use Rattle.cs_safety.proofs.Distances.{distance_one, last_step, path_exists}
use Rattle.cs_schema.specs.CatalogData.{CatalogData}
use Rattle.cs_schema.specs.Losses.{Sites, alive}
use Rattle.cs_safety.specs.Paths.{Path, Step, IsReached, IsDistance, holds_column}
use Rattle.cs_safety.specs.PlanData.{IsNearer, IsPrev, IsSource}
use Rattle.cs_safety.specs.NumberSets.{is_in, IsFirst}
use Rattle.cs_safety.specs.Reach.{IsGraphOf, within, holds_among, joins_among}
use Rattle.cs_safety.specs.PlanTests.{IsEntry, IsNearestHolder}
use Rattle.cs_safety.specs.declared.graph.Graph.{Graph}
use Rattle.cs_safety.proofs.Bounded.{and_both, and_first, and_second, decide}
use Rattle.cs_safety.proofs.Reached.{within_path, path_within, within_more, distance, reached_within}

module _ (C : CatalogData) (g : Graph) (G : IsGraphOf C g) (L : Sites) (o : ℕ) (same : (q : ℕ) → q < g.count → is_in o q ≡ alive C L q) (a : ℕ) (exists : a < g.count) where
  there : a < length C.projections
  there = subst (λ n. a < n) G.count exists

  -- reached within k joins, and not within fewer
  at_distance : (q k : ℕ) → within g o a k q ≡ true → ((j : ℕ) → j < k → within g o a j q ≡ false) → IsDistance C (alive C L) a q k
  at_distance q k e before =
      let d = distance C g G o (alive C L) same a exists k q e in
      let same_k : d.0 ≡ k = elim (cases_lt d.0 k) [
        | inl l ↦ false≢true (sym (before d.0 l) ∙ path_within C g G o (alive C L) same a exists q d.0 d.2.path)
        | inr l ↦ let u : d.0 ≤ k = d.1 in omega arith
      ] in
      subst (λ n. IsDistance C (alive C L) a q n) same_k d.2

  earlier : (q k j : ℕ) → j ≤ k → within g o a k q ≡ false → within g o a j q ≡ false
  earlier q k j h e = elim (decide (within g o a j q)) [ inl t ↦ false≢true (sym e ∙ within_more C g G o (alive C L) same a exists j k q h t) | inr f ↦ f ]

  pub entry_prev : (q p : ℕ) → q < g.count → IsEntry g o a q p → IsPrev C L a q p
  entry_prev q p h e =
      let k = e.level in
      let here : within g o a (suc k) q ≡ true = subst (λ m. within g o a m q ≡ true) (add-one k) e.here in
      let near : within g o a k p ≡ true = and_first (within g o a k p) _ e.first.passes in
      let joined : is_in (slice_index g.joins p) q ≡ true = and_second (within g o a k p) _ e.first.passes in
      let dq : IsDistance C (alive C L) a q (suc k) = at_distance q (suc k) here (λ j l. earlier q k j (omega arith) e.not_before) in
      let step : Step C (alive C L) p q = step_of p q k e.first.below joined dq in
      record {
        other = λ f. false≢true (sym (earlier q k 0 (omega arith) e.not_before) ∙ eq-eqb q a f);
        nearer = record { step = step; nearer = (k, (at_distance p k near (λ j l. no_nearer p q k j step l dq), dq)) };
        least = λ r n. least q r k p e.first dq n;
      }
    where
      step_of : (p q k : ℕ) → p < g.count → is_in (slice_index g.joins p) q ≡ true → IsDistance C (alive C L) a q (suc k) → Step C (alive C L) p q
      step_of p q k b j d =
          let inside = G.inside p b q j in
          record { exists = subst (λ n. q < n) G.count inside; declared = sym (G.joins p b q) ∙ j; may_enter = (last_step C (alive C L) a q k d.path).2.may_enter }

      no_nearer : (p q k j : ℕ) → Step C (alive C L) p q → j < k → IsDistance C (alive C L) a q (suc k) → within g o a j p ≡ false
      no_nearer p q k j s l d = elim (decide (within g o a j p)) [
        | inl t ↦
            let w = within_path C g G o (alive C L) same a exists j p t in
            let m : suc k ≤ suc w.0 = d.least (suc w.0) (Path.join w.2 s) in
            let u : w.0 ≤ j = w.1 in
            absurd (omega arith)
        | inr f ↦ f
      ]

      least : (q r k p : ℕ) → IsFirst g.count (joins_among g (within g o a k) q) p → IsDistance C (alive C L) a q (suc k) → IsNearer C L a r q → p ≤ r
      least q r k p f d n =
          let m = n.nearer.0 in
          let e : suc m ≡ suc k = distance_one C (alive C L) a q (suc m) (suc k) n.nearer.1.1 d in
          let e' : m ≡ k = omega (arith, e) in
          let there_r : r < g.count = subst (λ w. r < w) (sym G.count) (path_exists C (alive C L) a there r m n.nearer.1.0.path) in
          let w : within g o a k r ≡ true = subst (λ j. within g o a j r ≡ true) e' (path_within C g G o (alive C L) same a exists r m n.nearer.1.0.path) in
          elim (cases_lt r p) [
            | inl l ↦ false≢true (sym (f.before r l) ∙ and_both (within g o a k r) _ w (G.joins r there_r q ∙ n.step.declared))
            | inr l ↦ l
          ]

  pub no_entry : (q : ℕ) → ((k : ℕ) → k < 7 → within g o a (k + 1) q ≡ true → within g o a k q ≡ true) → (q ≡ a) ⊎ ¬ IsReached C (alive C L) a q
  no_entry q f = elim (decide (q == a)) [ inl e ↦ inl (eqb-true q a e) | inr e ↦ inr (λ r. false≢true (sym e ∙ down 7 (omega arith) (reached_within C g G o (alive C L) same a exists q r))) ]
    where
      down : (k : ℕ) → k ≤ 7 → within g o a k q ≡ true → within g o a 0 q ≡ true
      down zero h e = e
      down (suc k) h e = down k (omega arith) (f k (omega arith) (subst (λ m. within g o a m q ≡ true) (sym (add-one k)) e))

  pub holder_source : (c q : ℕ) → IsNearestHolder g o a c q → IsSource C L a c q
  holder_source c q h =
      let k = h.level in
      let held : is_in (slice_index g.columns q) c ≡ true = and_second (within g o a k q) _ h.first.passes in
      record {
        column = sym (G.columns q h.first.below c) ∙ held;
        distance = k;
        at_distance = at_distance q k (and_first (within g o a k q) _ h.first.passes) (λ j l. not_nearer j l held);
        least = λ r n d e. least r n d e;
      }
    where
      not_nearer : (j : ℕ) → j < h.level → is_in (slice_index g.columns q) c ≡ true → within g o a j q ≡ false
      not_nearer j l held = elim (decide (within g o a j q)) [ inl t ↦ false≢true (sym (h.none_nearer j q l h.first.below) ∙ and_both (within g o a j q) _ t held) | inr f ↦ f ]

      least : (r n : ℕ) → IsDistance C (alive C L) a r n → holds_column C r c ≡ true → (h.level < n) ⊎ ((h.level ≡ n) × (q ≤ r))
      least r n d e =
          let b : r < g.count = subst (λ m. r < m) (sym G.count) (path_exists C (alive C L) a there r n d.path) in
          let passes : holds_among g (within g o a n) c r ≡ true = and_both (within g o a n r) _ (path_within C g G o (alive C L) same a exists r n d.path) (G.columns r b c ∙ e) in
          elim (cases_lt n h.level) [
            | inl l ↦ false≢true (sym (h.none_nearer n r l b) ∙ passes)
            | inr l ↦ elim (cases_eq n h.level) [
              | inl s ↦ inr (sym s, first r b (subst (λ m. holds_among g (within g o a m) c r ≡ true) s passes))
              | inr d ↦ inl (omega arith)
            ]
          ]
        where
          first : (r : ℕ) → r < g.count → holds_among g (within g o a h.level) c r ≡ true → q ≤ r
          first r b e = elim (cases_lt r q) [ inl l ↦ false≢true (sym (h.first.before r l) ∙ e) | inr l ↦ l ]
