use Rattle.std.proofs.Common.{◌≡◌, ℕ, ◌<◌, sym, subst, refl}
use Rattle.cs_schema.proofs.Ascending.{false≢true}
use Rattle.cs_schema.specs.CatalogData.{CatalogData}
use Rattle.cs_schema.specs.Losses.{Sites, alive}
use Rattle.cs_safety.specs.Safety.{IsWhole}
use Rattle.cs_safety.specs.NumberSets.{is_in}
use Rattle.cs_safety.specs.Reach.{IsGraphOf, Suits}
use Rattle.cs_safety.specs.declared.graph.Graph.{Graph}
use Rattle.cs_safety.proofs.Reached.{is_suitable, suits}
use Rattle.cs_safety.proofs.losses.is_whole.Goals as goal

not_whole : (C : CatalogData) (g : Graph) (G : IsGraphOf C g) (L : Sites) (o : ℕ) → ((q : ℕ) → q < g.count → is_in o q ≡ alive C L q) → ((a : ℕ) → ¬ Suits g o a) → ¬ IsWhole C L
not_whole C g G L o same none w = none w.0 (suits C g G o (alive C L) same w.0 (subst (λ n. w.0 < n) (sym G.count) w.1.exists) w.1)

pub returns-in-None : goal.returns-in-None
returns-in-None c =
    let G = c.requires in
    (λ h. false≢true h, λ w. absurd (not_whole c.args.catalog.now c.args.graph.now G c.args.loss c.alive_set.result (λ q h. c.alive_set.ensures q (subst (λ n. q < n) G.count h)) c.in-None.ensures w))

pub returns-in-Some : goal.returns-in-Some
returns-in-Some c =
    let G = c.requires in
    let f = c.in-Some.ensures in
    (λ h. (c.in-Some.field-0, is_suitable c.args.catalog.now c.args.graph.now G c.alive_set.result (alive c.args.catalog.now c.args.loss) (λ q h. c.alive_set.ensures q (subst (λ n. q < n) G.count h)) c.in-Some.field-0 f.suits.exists f.suits), λ w. refl)
