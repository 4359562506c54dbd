use Rattle.std.proofs.Common.{◌≡◌, ℕ, ◌+◌, ◌<◌, true, false, ◌&&◌, Option, Some, None, sym, ap, subst, ◌∙◌, arith, add-one, inl, inr, ◌⊎◌, slice_index}
use Rattle.cs_schema.proofs.Ascending.{false≢true}
use Rattle.cs_safety.specs.NumberSets.{is_in, some_below, IsFirst, IsFirstBelow}
use Rattle.cs_safety.specs.Reach.{within, joins_among}
use Rattle.cs_safety.specs.PlanTests.{IsEntrance}
use Rattle.cs_safety.specs.declared.graph.Graph.{Graph}
use Rattle.cs_safety.proofs.Bounded.{or_cases, and_second, some_at}
use Rattle.cs_safety.proofs.planning.entrance.Goals as goal

entered_by : (g : Graph) (o a k q w : ℕ) → k < 7 → ((r : ℕ) → is_in w r ≡ within g o a k r) → within g o a (k + 1) q ≡ true → within g o a k q ≡ false → (r : Option ℕ) → IsFirstBelow g.count (joins_among g (is_in w) q) r → IsEntrance g o a q r
entered_by g o a k q w near e now old None f = absurd (go (or_cases (within g o a k q) _ (subst (λ m. within g o a m q ≡ true) (add-one k) now)))
  where
    go : (within g o a k q ≡ true) ⊎ ((is_in o q && some_below g.count (λ p. within g o a k p && is_in (slice_index g.joins p) q)) ≡ true) → ⊥
    go (inl h) = false≢true (sym old ∙ h)
    go (inr h) =
        let s = some_at g.count (λ p. within g o a k p && is_in (slice_index g.joins p) q) (and_second (is_in o q) _ h) in
        false≢true (sym (f s.0 s.1) ∙ ap (λ b. b && is_in (slice_index g.joins s.0) q) (e s.0) ∙ s.2)
entered_by g o a k q w near e now old (Some p) f =
    record { level = k; near = near; here = now; not_before = old; first = subst (λ t. IsFirst g.count (joins_among g t q) p) (λ i r. e r i) f }

pub returns-then-not-has : goal.returns-then-not-has
returns-then-not-has c =
    let near = c.loop-k-test.true in
    entered_by c.args.graph.now c.args.levels.now.allowed c.args.levels.now.start c.loop-k.k c.args.q (slice_index c.args.levels.now.reached c.loop-k.k) near
    (c.requires.levels c.loop-k.k (omega (arith, near)))
    (sym (c.requires.levels (c.loop-k.k + 1) (omega (arith, near)) c.args.q) ∙ sym c.has.ensures ∙ c.if-has.true)
    (sym (c.requires.levels c.loop-k.k (omega (arith, near)) c.args.q) ∙ sym c.has-then-has.ensures ∙ c.if-not-has.true)
    c.first_joined.result c.first_joined.ensures
