-- Columns that are read at the anchor.
use Rattle.std.proofs.Common.{◌≡◌, ℕ, ◌<◌, ◌≤◌, ◌==◌, List, [], ◌∷◌, ◌++◌, ◌+◌, ◌-◌, length, map, take, drop, refl, sym, ap, ◌∙◌, subst, arith, Option, Some, zero-add}
use Rattle.std.specs.Prelude.{slice_index, slice_index_or, pos}
use Rattle.std.specs.List.{position_or_len}
use Rattle.std.specs.Option.{unwrap_or}
use Rattle.std.proofs.lemmas.List.{length-map, get_or-map, get_or-take, get_or-drop, length-take-le, length-drop}
use Rattle.std.proofs.lemmas.List.FromFn.{fill_by_all, get_or-map-range_with_len, length-map-range_with_len}
use Rattle.cs_schema.specs.declared.cells.Value.{Value}
use Rattle.cs_schema.specs.declared.kinds.Kind.{Kind}
use Rattle.cs_schema.specs.CatalogData.{CatalogData, column, projection}
use Rattle.cs_schema.specs.Rows.{Row, cell}
use Rattle.cs_schema.proofs.Lists.{flat_more}
use Rattle.cs_segment.specs.SegmentData.{kinds_at}
use Rattle.cs_delta.specs.Image.{ImageData, Pair}
use Rattle.cs_delta.specs.KindedImage.{KindedImage, image_column}
use Rattle.cs_safety.specs.PlanData.{PlanData}
use Rattle.cs_rows.specs.Walk.{Contents, At, stand, image_cell, walked_cell, walked_row, segment_rows}
use Rattle.cs_rows.specs.Survivors.{SurvivorsData, contents_of, image_at, held}
use Rattle.cs_rows.specs.Steps.{PlanFits}
use Rattle.cs_rows.specs.Columns.{index_of, rows_from}
use Rattle.cs_rows.proofs.RangeLemmas.{in_segment, done, map_append}
use Rattle.cs_rows.proofs.RowLemmas.{column_cell, read_there}
use Rattle.cs_rows.proofs.StepLemmas.{stand_anchor}

-- the column's index in the anchor
abbrev pub place : CatalogData → PlanData → ℕ → ℕ
place C P c = position_or_len (λ d. d == c) (projection C P.anchor).columns

module _ (C : CatalogData) (S : Contents) (P : PlanData) (c : ℕ) where
  -- the cells of walked rows
  pub cells_of_rows : c < length C.columns → (ats : List At) → map (λ at. walked_cell C S P at c) ats ≡ map (λ (row : Row). cell row c) (map (walked_row C S P) ats)
  cells_of_rows h [] = refl
  cells_of_rows h (at ∷ ats) = λ i. sym (get_or-map-range_with_len (walked_cell C S P at) 0 (length C.columns) c c (Value.Int (pos 0)) h (zero-add c)) i ∷ cells_of_rows h ats i

  module _ (here : slice_index P.source c ≡ P.anchor) where
    cell_there : (at : At) → walked_cell C S P at c ≡ image_cell C S P.anchor c at
    cell_there at =
        (λ i. image_cell C S (here i) c (unwrap_or (stand C S P at (here i)) (0, 0)))
        ∙ ap (λ (o : Option At). image_cell C S P.anchor c (unwrap_or o (0, 0))) (sym (stand_anchor C S P at (length C.projections) P.anchor refl))

    -- the column of a segment's image is the cells of the segment's rows
    pub column_walked : (s : ℕ) → image_column (S.image P.anchor s) (place C P c) ≡ map (λ at. walked_cell C S P at c) (segment_rows S P.anchor s)
    column_walked s =
        let m : ImageData = S.image P.anchor s in
        let n : ℕ = length m.pairs in
        let f : At → Value = λ at. walked_cell C S P at c in
        let v : Value = Value.Int (pos 0) in
        let rows : List At = segment_rows S P.anchor s in
        let l : length rows ≡ n = length-map-range_with_len (in_segment s) 0 n in
        fill_by_all (λ k. f (s, k)) (image_column m (place C P c)) n v (length-map m.pairs (λ (x : Pair). cell x.1 (place C P c))) (λ k h. column_cell m k (place C P c) h ∙ sym (cell_there (s, k)))
        ∙ sym (fill_by_all (λ k. f (s, k)) (map f rows) n v (length-map rows f ∙ l)
        (λ k h.
        let b : k < length rows = omega arith in
        get_or-map f rows k (0, 0) v b ∙ ap f (get_or-map-range_with_len (in_segment s) 0 n k k (0, 0) h (zero-add k))))

    -- the cells of one more segment
    pub more_cells : (s : ℕ) (before : List Value) → before ≡ map (λ at. walked_cell C S P at c) (done S P.anchor s) → before ++ image_column (S.image P.anchor s) (place C P c) ≡ map (λ at. walked_cell C S P at c) (done S P.anchor (s + 1))
    more_cells s before e =
        let f : At → Value = λ at. walked_cell C S P at c in
        let z : 0 + s ≡ s = zero-add s in
        (λ i. e i ++ column_walked s i)
        ∙ sym (ap (map f) (flat_more (segment_rows S P.anchor) 0 s ∙ ap (λ (k : ℕ). done S P.anchor s ++ segment_rows S P.anchor k) z) ∙ map_append f (done S P.anchor s) (segment_rows S P.anchor s))

    -- a part of the column of a segment's image is the cells of the rows there
    pub part_walked : (s start stop : ℕ) → start ≤ stop → stop ≤ length (S.image P.anchor s).pairs → take (stop - start) (drop start (image_column (S.image P.anchor s) (place C P c))) ≡ map (λ at. walked_cell C S P at c) (rows_from s start (stop - start))
    part_walked s start stop order within =
        let m : ImageData = S.image P.anchor s in
        let all : List Value = image_column m (place C P c) in
        let n : ℕ = stop - start in
        let f : At → Value = λ at. walked_cell C S P at c in
        let v : Value = Value.Int (pos 0) in
        let rows : List At = rows_from s start n in
        let long : length all ≡ length m.pairs = length-map m.pairs (λ (x : Pair). cell x.1 (place C P c)) in
        let many : length rows ≡ n = length-map-range_with_len (in_segment s) start n in
        fill_by_all (λ k. f (s, start + k)) (take n (drop start all)) n v (length-take-le n (drop start all) (omega (arith, order, within, long, length-drop start all)))
        (λ k h. get_or-take n (drop start all) k v h ∙ get_or-drop start all k v ∙ column_cell m (start + k) (place C P c) (omega (arith, h, within)) ∙ sym (cell_there (s, start + k)))
        ∙ sym (fill_by_all (λ k. f (s, start + k)) (map f rows) n v (length-map rows f ∙ many)
        (λ k h. get_or-map f rows k (0, 0) v (omega (arith, h, many)) ∙ ap f (get_or-map-range_with_len (in_segment s) start n k (start + k) (0, 0) h refl)))

-- the column of the table in an image of the anchor, for another name of the anchor and of the index
pub column_of_image : (C : CatalogData) (S : SurvivorsData) (P : PlanData) (fits : PlanFits C P) (c : ℕ) → c < length C.columns → slice_index P.source c ≡ P.anchor
    → (q j s : ℕ) (m : KindedImage) → q ≡ P.anchor → j ≡ index_of C P c → image_at S q s ≡ Some m → m.kinds ≡ kinds_at C q
    → (j < length m.kinds) × (slice_index_or m.kinds j Kind.Int ≡ (column C c).kind) × (image_column m.image j ≡ image_column ((contents_of S).image P.anchor s) (place C P c))
column_of_image C S P fits c h here q j s m a b e kinds =
    let f : image_at S P.anchor s ≡ Some m = subst (λ (p : ℕ). image_at S p s ≡ Some m) a e in
    let there = read_there C P fits c h q j m.kinds (a ∙ sym here) b kinds in
    let at : j ≡ place C P c = b ∙ ap (λ (p : ℕ). position_or_len (λ d. d == c) (projection C p).columns) here in (
      there.0,
      there.1,
      ap (image_column m.image) at ∙ ap (λ (o : Option KindedImage). image_column (held o) (place C P c)) (sym f),
    )
