-- The lists of surviving segments and join indexes, one step further.
use Rattle.std.proofs.Common.{◌≡◌, ℕ, suc, ◌+◌, ◌<◌, List, [], ◌∷◌, ◌++◌, map, length, take, ap, ◌∙◌, true, false, not, cond, arith, append-nil, get_or}
use Rattle.std.specs.List.{filter, flat_map}
use Rattle.std.proofs.lemmas.Grind.{flat_map-append}
use Rattle.std.proofs.lemmas.List.{map-append}
use Rattle.std.proofs.lemmas.List.Elements.{filter-append}
use Rattle.std.proofs.Math.Seq.{take-suc}
use Rattle.cs_schema.specs.CatalogData.{CatalogData, has_join, segments}
use Rattle.cs_schema.specs.Lists.{numbers_below}
use Rattle.cs_schema.specs.Losses.{lost, Sites}
use Rattle.cs_rebuild.specs.Surveys.{joins_at, joins_among}
use Rattle.cs_rebuild.proofs.Names.{below_one_more}

-- the surviving segments among the first n of a projection
abbrev pub survivors_of : CatalogData → Sites → ℕ → ℕ → List (ℕ × ℕ)
survivors_of C L p n = filter (λ (a : ℕ × ℕ). not (lost C L a.0 a.1)) (map (λ s. (p, s)) (numbers_below n))

-- the surviving segments of the first n projections
abbrev pub survivors_below : CatalogData → Sites → ℕ → List (ℕ × ℕ)
survivors_below C L n = filter (λ (a : ℕ × ℕ). not (lost C L a.0 a.1)) (flat_map (λ p. map (λ s. (p, s)) (numbers_below (segments C p))) (numbers_below n))

module _ (C : CatalogData) (L : Sites) where
  more : (p s : ℕ) → survivors_of C L p (s + 1) ≡ survivors_of C L p s ++ cond (not (lost C L p s)) ((p, s) ∷ []) []
  more p s =
      ap (λ l. filter (λ (a : ℕ × ℕ). not (lost C L a.0 a.1)) (map (λ t. (p, t)) l)) (below_one_more s) ∙ ap (filter (λ (a : ℕ × ℕ). not (lost C L a.0 a.1))) (map-append (λ (t : ℕ). (p, t)) (numbers_below s) (s ∷ []))
      ∙ filter-append (λ (a : ℕ × ℕ). not (lost C L a.0 a.1)) (map (λ (t : ℕ). (p, t)) (numbers_below s)) ((p, s) ∷ [])

  pub one_survivor : (p s : ℕ) → lost C L p s ≡ false → survivors_of C L p (s + 1) ≡ survivors_of C L p s ++ (p, s) ∷ []
  one_survivor p s e = more p s ∙ ap (λ b. survivors_of C L p s ++ cond (not b) ((p, s) ∷ []) []) e

  pub no_survivor : (p s : ℕ) → lost C L p s ≡ true → survivors_of C L p (s + 1) ≡ survivors_of C L p s
  no_survivor p s e = more p s ∙ ap (λ b. survivors_of C L p s ++ cond (not b) ((p, s) ∷ []) []) e ∙ append-nil (survivors_of C L p s)

  pub one_projection : (p : ℕ) → survivors_below C L (p + 1) ≡ survivors_below C L p ++ survivors_of C L p (segments C p)
  one_projection p =
      let g : ℕ → List (ℕ × ℕ) = λ q. map (λ s. (q, s)) (numbers_below (segments C q)) in
      ap (λ l. filter (λ (a : ℕ × ℕ). not (lost C L a.0 a.1)) (flat_map g l)) (below_one_more p) ∙ ap (filter (λ (a : ℕ × ℕ). not (lost C L a.0 a.1))) (flat_map-append g (numbers_below p) (p ∷ []))
      ∙ filter-append (λ (a : ℕ × ℕ). not (lost C L a.0 a.1)) (flat_map g (numbers_below p)) (g p ++ [])
      ∙ ap (λ l. survivors_below C L p ++ filter (λ (a : ℕ × ℕ). not (lost C L a.0 a.1)) l) (append-nil (g p))

module _ (C : CatalogData) where
  more_joins : (p s q : ℕ) → joins_at C p s (q + 1) ≡ joins_at C p s q ++ map (λ r. (p, s, r)) (cond (has_join C p q) (q ∷ []) [])
  more_joins p s q =
      ap (λ l. map (λ r. (p, s, r)) (filter (has_join C p) l)) (below_one_more q) ∙ ap (map (λ (r : ℕ). (p, s, r))) (filter-append (has_join C p) (numbers_below q) (q ∷ []))
      ∙ map-append (λ (r : ℕ). (p, s, r)) (filter (has_join C p) (numbers_below q)) (cond (has_join C p q) (q ∷ []) [])

  pub one_join : (p s q : ℕ) → has_join C p q ≡ true → joins_at C p s (q + 1) ≡ joins_at C p s q ++ (p, s, q) ∷ []
  one_join p s q e = more_joins p s q ∙ ap (λ b. joins_at C p s q ++ map (λ (r : ℕ). (p, s, r)) (cond b (q ∷ []) [])) e

  pub no_join : (p s q : ℕ) → has_join C p q ≡ false → joins_at C p s (q + 1) ≡ joins_at C p s q
  no_join p s q e = more_joins p s q ∙ ap (λ b. joins_at C p s q ++ map (λ (r : ℕ). (p, s, r)) (cond b (q ∷ []) [])) e ∙ append-nil (joins_at C p s q)

  pub one_segment : (xs : List (ℕ × ℕ)) (i : ℕ) → i < length xs → joins_among C (take (i + 1) xs) ≡ joins_among C (take i xs) ++ joins_at C (get_or xs i (0, 0)).0 (get_or xs i (0, 0)).1 (length C.projections)
  one_segment xs i l =
      let g : ℕ × ℕ → List (ℕ × ℕ × ℕ) = λ a. joins_at C a.0 a.1 (length C.projections) in
      let a : ℕ × ℕ = get_or xs i (0, 0) in
      ap (λ n. joins_among C (take n xs)) (let e : i + 1 ≡ suc i = omega arith in e) ∙ ap (flat_map g) (take-suc xs i (0, 0) l) ∙ flat_map-append g (take i xs) (a ∷ []) ∙ ap (λ t. joins_among C (take i xs) ++ t) (append-nil (g a))
