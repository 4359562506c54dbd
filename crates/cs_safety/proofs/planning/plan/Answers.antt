use Rattle.std.proofs.Common.{◌≡◌, ℕ, ◌<◌, ◌≤◌, Option, Some, None, length, slice_index, slice_index_or, sym, refl, subst, ◌∙◌, ◌⊎◌, inl, inr}
use Rattle.std.specs.Option.{MatchOption}
use Rattle.std.proofs.lemmas.Bool.{cases_lt}
use Rattle.cs_schema.specs.CatalogData.{CatalogData}
use Rattle.cs_schema.specs.Losses.{Sites, alive}
use Rattle.cs_safety.specs.Paths.{IsReached, IsSuitable}
use Rattle.cs_safety.specs.Safety.{IsWhole}
use Rattle.cs_safety.specs.PlanData.{PlanData, IsPlan, IsPrev, IsSource}
use Rattle.cs_safety.specs.NumberSets.{is_in}
use Rattle.cs_safety.specs.Reach.{IsGraphOf, Suits, IsFirstSuiting}
use Rattle.cs_safety.specs.PlanTests.{IsEntrance, IsNearestHolder}
use Rattle.cs_safety.specs.declared.graph.Graph.{Graph}
use Rattle.cs_safety.proofs.Reached.{is_suitable, suits}
use Rattle.cs_safety.proofs.PlanLemmas.{entry_prev, no_entry, holder_source}
use Rattle.cs_safety.proofs.planning.plan.Goals as goal

module _ (C : CatalogData) (g : Graph) (G : IsGraphOf C g) (L : Sites) (o : ℕ) (same : (q : ℕ) → q < g.count → is_in o q ≡ alive C L q) where
  not_whole : ((a : ℕ) → ¬ Suits g o a) → ¬ IsWhole C L
  not_whole none w = none w.0 (suits C g G o (alive C L) same w.0 (subst (λ n. w.0 < n) (sym G.count) w.1.exists) w.1)

  module _ (a : ℕ) (f : IsFirstSuiting g o a) where
    prev_is : (q : ℕ) → q < g.count → (r : Option ℕ) → IsEntrance g o a q r → MatchOption r ((q ≡ a) ⊎ ¬ IsReached C (alive C L) a q) (λ p. IsPrev C L a q p)
    prev_is q h None e = no_entry C g G L o same a f.suits.exists q e
    prev_is q h (Some p) e = entry_prev C g G L o same a f.suits.exists q p h e

    plan_is : (P : PlanData) → P.anchor ≡ a → length P.prev ≡ g.count → ((q : ℕ) → q < g.count → IsEntrance g o a q (slice_index_or P.prev q None))
        → length P.source ≡ g.width → ((c : ℕ) → c < g.width → IsNearestHolder g o a c (slice_index P.source c)) → IsPlan C L P
    plan_is P e prevs prev sources source = record {
      anchor = subst (λ b. IsSuitable C (alive C L) b) (sym e) (is_suitable C g G o (alive C L) same a f.suits.exists f.suits);
      least = λ b s. subst (λ x. x ≤ b) (sym e) (elim (cases_lt b a) [
        | inl l ↦ absurd (f.before b l (suits C g G o (alive C L) same b (subst (λ n. b < n) (sym G.count) s.exists) s))
        | inr l ↦ l
      ]);
      prevs = prevs ∙ G.count;
      prev = λ q h. subst (λ x. MatchOption (slice_index_or P.prev q None) ((q ≡ x) ⊎ ¬ IsReached C (alive C L) x q) (λ p. IsPrev C L x q p)) (sym e)
          (prev_is q (subst (λ n. q < n) (sym G.count) h) (slice_index_or P.prev q None) (prev q (subst (λ n. q < n) (sym G.count) h)));
      sources = sources ∙ G.width;
      source = λ c h. subst (λ x. IsSource C L x c (slice_index P.source c)) (sym e) (holder_source C g G L o same a f.suits.exists c (slice_index P.source c) (source c (subst (λ n. c < n) (sym G.width) h)));
    }

from_anchor : (P : ℕ → ℕ → Type 0) (x y o a : ℕ) → x ≡ o → y ≡ a → P x y → P o a
from_anchor P x y o a e f h = subst (λ w. P o w) f (subst (λ w. P w y) e h)

pub returns-in_err-anchor-clause-none : goal.returns-in_err-anchor-clause-none
returns-in_err-anchor-clause-none c e =
    let G = c.graph_of-graph.ensures.graph in
    not_whole c.args.catalog.now c.graph_of-graph.result G c.args.loss c.alive_set-allowed.result (λ q h. c.alive_set-allowed.ensures q (subst (λ n. q < n) G.count h)) c.in_err-anchor.ensures

pub returns-clause-some : goal.returns-clause-some
returns-clause-some c =
    let C = c.args.catalog.now in
    let g = c.graph_of-graph.result in
    let G = c.graph_of-graph.ensures.graph in
    let o = c.alive_set-allowed.result in
    let a = c.in_ok-anchor.anchor in
    let l = c.levels_from-levels.result in
    let e = c.levels_from-levels.ensures in
    plan_is C g G c.args.loss o (λ q h. c.alive_set-allowed.ensures q (subst (λ n. q < n) G.count h)) a c.in_ok-anchor.ensures
    (record { anchor = a; prev = c.entrances-prev.result.items; source = c.in_ok-source.source.items })
    refl c.entrances-prev.ensures.size
    (λ q h. from_anchor (λ x y. IsEntrance g x y q (slice_index_or c.entrances-prev.result.items q None)) l.allowed l.start o a e.allowed e.start (c.entrances-prev.ensures.each q h))
    c.in_ok-source.ensures.size
    (λ k h. from_anchor (λ x y. IsNearestHolder g x y k (slice_index c.in_ok-source.source.items k)) l.allowed l.start o a e.allowed e.start (c.in_ok-source.ensures.each k h))
