use Rattle.std.proofs.Common.{◌≡◌, ℕ, zero, suc, ◌<◌, ◌≤◌, ◌-◌, ◌==◌, arith, sym, subst, ap, ◌∙◌, refl, true, false, Bool, ◌||◌, List, [], ◌∷◌, slice_index}
use Rattle.std.proofs.Math.ListN.{length-set}
use Rattle.cs_safety.specs.NumberSets.{is_in}
use Rattle.cs_safety.specs.Reach.{entered, within}
use Rattle.cs_safety.specs.declared.graph.Graph.{Graph}
use Rattle.cs_safety.proofs.BitSets.{none_in}
use Rattle.cs_safety.proofs.Arrays.{set_below}
use Rattle.cs_safety.proofs.reach.levels_from.Goals as goal

or-false : (b : Bool) → (b || false) ≡ b
or-false true = refl
or-false false = refl

start_only : (w n a q : ℕ) → ((k : ℕ) → is_in w k ≡ (k == a || is_in 0 k)) → is_in w q ≡ (q == a)
start_only w n a q e = e q ∙ ap (λ b. q == a || b) (none_in q) ∙ or-false (q == a)

one_further : (g : Graph) (o a k : ℕ) → 1 ≤ k → (q : ℕ) → entered g o (within g o a (k - 1)) q ≡ within g o a k q
one_further g o a zero h q = absurd (omega arith)
one_further g o a (suc k) h q = let e : suc k - 1 ≡ k = omega arith in ap (λ j. entered g o (within g o a j) q) e

first_level : (g : Graph) (o a w : ℕ) (xs : List ℕ) → slice_index xs 0 ≡ w → ((k : ℕ) → is_in w k ≡ (k == a || is_in 0 k)) → (k : ℕ) → k < 1 → (q : ℕ) → is_in (slice_index xs k) q ≡ within g o a k q
first_level g o a w xs e f zero h q = ap (λ v. is_in v q) e ∙ start_only w 0 a q f
first_level g o a w xs e f (suc k) h q = absurd (omega arith)

pub loop-k-init : goal.loop-k-init
loop-k-init c =
    let w = c.with-reached.result in
    record { size = refl; reached = first_level c.args.graph.now c.args.allowed c.args.start w (w ∷ w ∷ w ∷ w ∷ w ∷ w ∷ w ∷ w ∷ []) refl c.with-reached.ensures }

pub loop-k-preserved : goal.loop-k-preserved
loop-k-preserved c =
    let k = c.loop-k.k in
    let low : 1 ≤ k = c.loop-k.auto.k in
    let before : k - 1 < k = omega arith in
    let same : is_in (slice_index c.loop-k.reached (k - 1)) ≡ within c.args.graph.now c.args.allowed c.args.start (k - 1) = λ i q. c.loop-k.invariant.reached (k - 1) before q i in
    record {
      size = length-set c.loop-k.reached k c.next.result ∙ c.loop-k.invariant.size;
      reached = set_below (λ k w. (q : ℕ) → is_in w q ≡ within c.args.graph.now c.args.allowed c.args.start k q) c.loop-k.reached k c.next.result
          (subst (λ n. k < n) (sym c.loop-k.invariant.size) c.loop-k-test.true)
          c.loop-k.invariant.reached
          (λ q. c.next.ensures q ∙ ap (λ f. entered c.args.graph.now c.args.allowed f q) same ∙ one_further c.args.graph.now c.args.allowed c.args.start k low q);
    }
