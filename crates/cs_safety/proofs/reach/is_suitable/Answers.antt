use Rattle.std.proofs.Common.{◌≡◌, ℕ, ◌<◌, ◌&&◌, true, false, sym, ap, ◌∙◌, refl, arith, below_more, slice_index}
use Rattle.cs_schema.proofs.Ascending.{false≢true}
use Rattle.cs_safety.specs.NumberSets.{is_in, IsFirst}
use Rattle.cs_safety.specs.Reach.{within, holds_among, Suits}
use Rattle.cs_safety.specs.declared.graph.Graph.{Graph}
use Rattle.cs_safety.proofs.reach.is_suitable.Goals as goal

not_held : (g : Graph) (o a w c : ℕ) → ((q : ℕ) → is_in w q ≡ within g o a 7 q) → c < g.width → ((q : ℕ) → q < g.count → holds_among g (is_in w) c q ≡ false) → Suits g o a → ⊥
not_held g o a w c e h none s =
    let f = s.columns c h in
    false≢true (sym (none f.0 f.1) ∙ ap (λ b. b && is_in (slice_index g.columns f.0) c) (e f.0) ∙ f.2)

held_by : (g : Graph) (o a w c q : ℕ) → ((q : ℕ) → is_in w q ≡ within g o a 7 q) → IsFirst g.count (holds_among g (is_in w) c) q → (q : ℕ) × (q < g.count) × (holds_among g (within g o a 7) c q ≡ true)
held_by g o a w c q e f = (q, f.below, ap (λ b. b && is_in (slice_index g.columns q) c) (sym (e q)) ∙ f.passes)

pub returns-in-None : goal.returns-in-None
returns-in-None c = (λ h. false≢true h, λ s. absurd (not_held c.args.graph.now c.args.allowed c.args.start c.reached_from-reached.result c.loop-column.column c.reached_from-reached.ensures c.loop-column-test.true c.in-None.ensures s))

pub loop-column-preserved : goal.loop-column-preserved
loop-column-preserved c = below_more _ _ c.loop-column.invariant (held_by c.args.graph.now c.args.allowed c.args.start c.reached_from-reached.result c.loop-column.column c.in-Some.field-0 c.reached_from-reached.ensures c.in-Some.ensures)

pub returns : goal.returns
returns c = (λ h. record { exists = c.requires.exists; may_start = sym c.has.ensures ∙ c.if-not-has.false; columns = λ k h. c.loop-column.invariant k (let t = c.loop-column-test.false in omega (arith, t, h)) }, λ s. refl)
