-- No store has 2^32 rows: an image has at most 1,048,576 rows, a projection 16 images, and a catalog 8 projections.
use Rattle.std.proofs.Common.{◌≡◌, ℕ, zero, suc, ◌+◌, ◌*◌, ◌<◌, ◌≤◌, ◌^◌, List, [], ◌∷◌, ◌++◌, map, length, refl, sym, ap, subst, Bool, true, false, cond, not, Option, Some, None, arith, Result, Ok, Err, length-append}
use Rattle.std.specs.List.{filter, filter_map, cons_option, flat_map, find, range_with_len}
use Rattle.std.specs.Option.{option_and_then, option_map_or}
use Rattle.std.proofs.lemmas.List.{length-map}
use Rattle.std.proofs.lemmas.List.FromFn.{length-map-range_with_len}
use Rattle.cs_schema.specs.declared.kinds.Safety.{Safety}
use Rattle.cs_schema.specs.CatalogData.{CatalogData, HasSegment, segments}
use Rattle.cs_schema.specs.CatalogRules.{IsCatalog}
use Rattle.cs_schema.specs.FileNames.{FileContents}
use Rattle.cs_schema.specs.Lists.{numbers_below}
use Rattle.cs_schema.specs.Losses.{Sites, lost}
use Rattle.cs_schema.specs.Order.{row_limit}
use Rattle.cs_schema.specs.Rows.{Row, cell}
use Rattle.cs_schema.specs.Values.{value_eq}
use Rattle.cs_delta.specs.DeltaFile.{AllFit}
use Rattle.cs_delta.specs.Image.{Change, Pair, ImageData, applied, layered, base_pairs}
use Rattle.cs_segment.specs.SegmentFile.{base_row}
use Rattle.cs_safety.specs.PlanData.{PlanData, IsPlan}
use Rattle.cs_safety.proofs.AliveLemmas.{alive_kept}
use Rattle.cs_rows.specs.RowSteps.{kept_count, kept_rows, projection_kept, row_at}
use Rattle.cs_rows.specs.Walk.{Contents, At, Stray, is_astray, projection_rows, segment_rows, walked, walked_row}
use Rattle.cs_rows.specs.WalkByRows.{Reached, found_from, full_row, surviving_rows, walked_by_rows, without_repeats}
use Rattle.cs_rows.proofs.SurvivingRows.{surviving_are}
use Rattle.cs_recovery.specs.Contents.{IsImageOf, Reads}
use Rattle.cs_recovery.specs.Verdicts.{IsWalkedBy}

-- ---- lists

layered_few : (ls : List (List Change)) (xs : List Pair) → AllFit ls xs → length xs ≤ row_limit → length (layered ls xs) ≤ row_limit
layered_few [] xs fit h = h
layered_few (l ∷ ls) xs fit h = layered_few ls (applied l xs) fit.1 fit.0

flat_few : {X : Type 0} (f : ℕ → List X) (most a n : ℕ) → ((k : ℕ) → k < a + n → length (f k) ≤ most) → length (flat_map f (range_with_len a n)) ≤ n * most
flat_few f most a zero h = omega arith
flat_few f most a (suc n) h =
    let here : length (f a) ≤ most = h a (omega arith) in
    let rest : length (flat_map f (range_with_len (a + 1) n)) ≤ n * most = flat_few f most (a + 1) n (λ k l. h k (omega (arith, l))) in
    let both : length (f a ++ flat_map f (range_with_len (a + 1) n)) ≡ length (f a) + length (flat_map f (range_with_len (a + 1) n)) = length-append (f a) (flat_map f (range_with_len (a + 1) n)) in
    omega (arith, here, rest, both)

filter_few : {X : Type 0} (p : X → Bool) (xs : List X) → length (filter p xs) ≤ length xs
filter_few p [] = omega arith
filter_few p (x ∷ xs) = go (p x) (filter_few p xs)
  where
    go : (b : Bool) → length (filter p xs) ≤ length xs → length (cond b (x ∷ filter p xs) (filter p xs)) ≤ suc (length xs)
    go true h = omega (arith, h)
    go false h = omega (arith, h)

chosen_few : {X Y : Type 0} (f : X → Option Y) (xs : List X) → length (filter_map f xs) ≤ length xs
chosen_few f [] = omega arith
chosen_few {X} {Y} f (x ∷ xs) = go (f x) (chosen_few f xs)
  where
    go : (o : Option Y) → length (filter_map f xs) ≤ length xs → length (cons_option o (filter_map f xs)) ≤ suc (length xs)
    go None h = omega (arith, h)
    go (Some y) h = omega (arith, h)

repeats_few : (C : CatalogData) (rows : List Row) → length (without_repeats C rows) ≤ length rows
repeats_few C [] = omega arith
repeats_few C (r ∷ rs) =
    let rest = repeats_few C rs in
    let chosen = filter_few (λ (x : Row). not (value_eq (cell r C.key) (cell x C.key))) (without_repeats C rs) in
    omega (arith, rest, chosen)

-- ---- images

image_few : (C : CatalogData) (F : FileContents) (p s : ℕ) (m : ImageData) → IsImageOf C F p s m → length m.pairs ≤ row_limit
image_few C F p s m i =
    let base : length (base_pairs i.base) ≤ row_limit = subst (λ n. n ≤ row_limit) (sym (length-map-range_with_len {X = Pair} (λ k. (k + 1, base_row i.base k)) 0 i.base.rows)) i.segment_file.base.count in
    subst (λ (x : ImageData). length x.pairs ≤ row_limit) (sym i.image) (layered_few i.changes.layers (base_pairs i.base) i.can_merge.few base)

module _ (C : CatalogData) (cat : IsCatalog C) (F : FileContents) (L : Sites) (S : Contents) (reads : Reads C F L S) where
  few_segments : (p : ℕ) → p < length C.projections → segments C p ≤ 16
  few_segments p h = let cuts = (cat.projections p h).few_cuts in omega (arith, cuts)

  times : (n : ℕ) → n ≤ 16 → (k : ℕ) → k ≤ n * row_limit → k ≤ 16777216
  times n h k l = omega (arith, h, l)

  -- ---- by whole projections

  pub anchor_few : (P : PlanData) → IsPlan C L P → length (projection_rows C S P.anchor) ≤ 16777216
  anchor_few P plan =
      let h = plan.anchor.exists in
      let each : (s : ℕ) → s < 0 + segments C P.anchor → length (segment_rows S P.anchor s) ≤ row_limit =
      λ s l.
      let there : HasSegment C P.anchor s = (h, omega (arith, l)) in
      let image = image_few C F P.anchor s (S.image P.anchor s) (reads.images P.anchor s (there, alive_kept C cat L P.anchor h plan.anchor.may_start s there.1)) in
      omega (arith, image, length-map-range_with_len {X = At} (λ (i : ℕ). (s, i)) 0 (length (S.image P.anchor s).pairs)) in
      times (segments C P.anchor) (few_segments P.anchor h) _ (flat_few (segment_rows S P.anchor) row_limit 0 (segments C P.anchor) each)

  abbrev anchored : PlanData → List Row
  anchored P = map (walked_row C S P) (projection_rows C S P.anchor)

  walked_few : (P : PlanData) → IsPlan C L P → (rows : List Row) → Ok rows ≡ walked C S P → length rows ≤ 16777216
  walked_few P plan rows e = go (find (is_astray C S P) (projection_rows C S P.anchor)) e
    where
      go : (o : Option At) → ◌≡◌ {A = Result (List Row) Stray} (Ok rows) (option_map_or (λ at. Err (P.anchor, at.0, at.1)) o (Ok (anchored P))) → length rows ≤ 16777216
      go None k =
          let same : rows ≡ anchored P = cc in
          omega (arith, ap length same, length-map (projection_rows C S P.anchor) (walked_row C S P), anchor_few P plan)
      go (Some at) k = absurd (cc)

  -- ---- by rows

  kept_few : (p s : ℕ) → HasSegment C p s → length (kept_rows C L S p s) ≤ row_limit
  kept_few p s there =
      let counted : length (kept_rows C L S p s) ≡ kept_count C L S p s = length-map-range_with_len (row_at p s) 0 (kept_count C L S p s) in
      subst (λ n. n ≤ row_limit) (sym counted) (go (lost C L p s) refl)
    where
      go : (b : Bool) → lost C L p s ≡ b → kept_count C L S p s ≤ row_limit
      go true e = subst (λ n. n ≤ row_limit) (sym (ap (λ b. cond b 0 (length (S.image p s).pairs)) e)) (omega arith)
      go false e = subst (λ n. n ≤ row_limit) (sym (ap (λ b. cond b 0 (length (S.image p s).pairs)) e)) (image_few C F p s (S.image p s) (reads.images p s (there, e)))

  projection_few : (p : ℕ) → p < length C.projections → length (projection_kept C L S p) ≤ 16777216
  projection_few p h = times (segments C p) (few_segments p h) _ (flat_few (kept_rows C L S p) row_limit 0 (segments C p) (λ s l. kept_few p s (h, omega (arith, l))))

  pub surviving_few : length (surviving_rows C L S) ≤ 134217728
  surviving_few =
      let most : length (flat_map (projection_kept C L S) (numbers_below (length C.projections))) ≤ length C.projections * 16777216 = flat_few (projection_kept C L S) 16777216 0 (length C.projections) (λ p l. projection_few p (omega (arith, l))) in
      let same = ap length (surviving_are C L S) in
      let eight = cat.projection_range.1 in
      omega (arith, most, same, eight)

  abbrev found : List Row
  found = filter_map (λ (x : ℕ × At). option_and_then (full_row C S) (found_from C L S x.0 x.1)) (surviving_rows C L S)

  by_rows_few : (rows : List Row) → Ok rows ≡ walked_by_rows C L S → length rows ≤ 134217728
  by_rows_few rows e = go (find (λ (x : ℕ × At). Rattle.std.specs.Prelude.is_none (found_from C L S x.0 x.1)) (surviving_rows C L S)) e
    where
      go : (o : Option Reached) → ◌≡◌ {A = Result (List Row) Stray} (Ok rows) (option_map_or (λ (x : ℕ × At). Err (x.0, x.1.0, x.1.1)) o (Ok (without_repeats C found))) → length rows ≤ 134217728
      go None k =
          let same : rows ≡ without_repeats C found = cc in
          let chosen = chosen_few (λ (x : ℕ × At). option_and_then (full_row C S) (found_from C L S x.0 x.1)) (surviving_rows C L S) in
          omega (arith, ap length same, repeats_few C found, chosen, surviving_few)
      go (Some at) k = absurd (cc)

  -- a walk leads to fewer than 2^32 rows
  pub rows_few : (rule : Safety) (rows : List Row) → IsWalkedBy rule C L S (Ok rows) → length rows < 2 ^ 32
  rows_few Safety.Whole rows (P, plan, e) = omega (arith, walked_few P plan rows e)
  rows_few Safety.Rows rows e = omega (arith, by_rows_few rows e)
