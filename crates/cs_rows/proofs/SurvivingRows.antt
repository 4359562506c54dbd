-- The surviving rows, segment by segment.
use Rattle.std.proofs.Common.{◌≡◌, ℕ, zero, suc, ◌+◌, List, [], ◌∷◌, ◌++◌, map, refl, ap, ◌∙◌, Bool, true, false, not, cond}
use Rattle.std.specs.Prelude.{length}
use Rattle.std.specs.List.{filter, flat_map, range_with_len}
use Rattle.std.proofs.lemmas.List.Elements.{filter-append}
use Rattle.cs_schema.specs.CatalogData.{CatalogData, segments}
use Rattle.cs_schema.specs.Lists.{numbers_below}
use Rattle.cs_schema.specs.Losses.{Sites, lost}
use Rattle.cs_rows.specs.Walk.{Contents, At, segment_rows, projection_rows}
use Rattle.cs_rows.specs.WalkByRows.{Reached, surviving_rows}
use Rattle.cs_rows.specs.RowSteps.{row_at, kept_rows, projection_kept}
use Rattle.cs_rows.proofs.RangeLemmas.{map_append, in_segment}

flat_map_same : {X Y : Type 0} (f g : X → List Y) (xs : List X) → ((x : X) → f x ≡ g x) → flat_map f xs ≡ flat_map g xs
flat_map_same f g [] h = refl
flat_map_same f g (x ∷ xs) h = λ i. h x i ++ flat_map_same f g xs h i

module _ (C : CatalogData) (L : Sites) (S : Contents) where
  module _ (p : ℕ) where
    abbrev with_projection : At → Reached
    with_projection at = (p, at)

    abbrev survives : At → Bool
    survives at = not (lost C L p at.0)

    kept_run : (s : ℕ) (b : Bool) → lost C L p s ≡ b → (a n : ℕ) → map with_projection (filter survives (map (in_segment s) (range_with_len a n))) ≡ map (row_at p s) (range_with_len a (cond b 0 n))
    kept_run s true e a zero = refl
    kept_run s true e a (suc n) =
        ap (λ (b : Bool). map with_projection (cond (not b) (in_segment s a ∷ filter survives (map (in_segment s) (range_with_len (a + 1) n))) (filter survives (map (in_segment s) (range_with_len (a + 1) n))))) e
        ∙ kept_run s true e (a + 1) n
    kept_run s false e a zero = refl
    kept_run s false e a (suc n) =
        ap (λ (b : Bool). map with_projection (cond (not b) (in_segment s a ∷ filter survives (map (in_segment s) (range_with_len (a + 1) n))) (filter survives (map (in_segment s) (range_with_len (a + 1) n))))) e
        ∙ ap (λ (l : List Reached). row_at p s a ∷ l) (kept_run s false e (a + 1) n)

    kept_segments : (ss : List ℕ) → map with_projection (filter survives (flat_map (segment_rows S p) ss)) ≡ flat_map (kept_rows C L S p) ss
    kept_segments [] = refl
    kept_segments (s ∷ ss) =
        ap (map with_projection) (filter-append survives (segment_rows S p s) (flat_map (segment_rows S p) ss))
        ∙ map_append with_projection (filter survives (segment_rows S p s)) (filter survives (flat_map (segment_rows S p) ss))
        ∙ (λ i. kept_run s (lost C L p s) refl 0 (length (S.image p s).pairs) i ++ kept_segments ss i)

  pub surviving_are : surviving_rows C L S ≡ flat_map (projection_kept C L S) (numbers_below (length C.projections))
  surviving_are = flat_map_same (λ (p : ℕ). map (with_projection p) (filter (survives p) (projection_rows C S p))) (projection_kept C L S) (numbers_below (length C.projections)) (λ p. kept_segments p (numbers_below (segments C p)))
