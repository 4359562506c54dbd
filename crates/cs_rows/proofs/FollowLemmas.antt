-- Row ids that a walk has followed: of one more row, of more rows, and the cells there.
use Rattle.std.proofs.Common.{◌≡◌, ℕ, ◌<◌, List, [], ◌∷◌, ◌++◌, ◌+◌, length, map, take, get_or, refl, sym, ap, ◌∙◌, arith, append-nil, Some}
use Rattle.std.specs.Prelude.{All, Option, slice_index}
use Rattle.std.specs.Option.{unwrap_or}
use Rattle.std.specs.List.{flat_map}
use Rattle.std.proofs.lemmas.List.{get_or_read, take_more}
use Rattle.std.proofs.lemmas.List.Elements.{All-nil, All-cons, All-append}
use Rattle.std.proofs.lemmas.List.FromFn.{length-map-range_with_len}
use Rattle.cs_schema.specs.CatalogData.{CatalogData}
use Rattle.cs_schema.specs.declared.cells.Value.{Value}
use Rattle.cs_schema.specs.Rows.{Row, cell}
use Rattle.cs_safety.specs.PlanData.{PlanData}
use Rattle.cs_rows.specs.Walk.{Contents, At, stand, image_cell, walked_cell, walked_row}
use Rattle.cs_rows.specs.Steps.{IsAt}
use Rattle.cs_rows.specs.Columns.{AreReachedIn, index_of}
use Rattle.cs_rows.specs.PlanWalks.{anchor_rows_between, cells_of, followed_rows}
use Rattle.cs_rows.specs.Survivors.{contents_of}
use Rattle.cs_rows.specs.declared.follow.FollowedRows.{FollowedRows}
use Rattle.cs_rows.specs.declared.plan_walk.PlanWalk.{PlanWalk}
use Rattle.cs_rows.proofs.RangeLemmas.{flat_map_append, map_append}
use Rattle.cs_rows.proofs.WholeLemmas.{cells_of_rows}

module _ (C : CatalogData) (S : Contents) (P : PlanData) (q : ℕ) where
  pub reached_more : (ats ids : List At) (at id : At) → AreReachedIn C S P q ats ids → stand C S P at q ≡ Some id → IsAt C S q id → AreReachedIn C S P q (ats ++ at ∷ []) (ids ++ id ∷ [])
  reached_more ats ids at id r e h = record {
    are = map_append (λ x. Some x) ids (id ∷ []) ∙ (λ i. r.are i ++ sym e i ∷ []) ∙ sym (map_append (λ x. stand C S P x q) ats (at ∷ []));
    there = All-append (IsAt C S q) ids (id ∷ []) r.there (All-cons (IsAt C S q) id [] h (All-nil (IsAt C S q)));
  }

  pub reached_none : AreReachedIn C S P q [] []
  reached_none = record { are = refl; there = All-nil (IsAt C S q) }

-- the walked cells are those of the rows that were reached
pub gathered : (C : CatalogData) (S : Contents) (P : PlanData) (c : ℕ) (ats ids : List At) → map (λ (x : At). Some x) ids ≡ map (λ at. stand C S P at (slice_index P.source c)) ats
    → map (image_cell C S (slice_index P.source c) c) ids ≡ map (λ at. walked_cell C S P at c) ats
gathered C S P c ats ids e =
    let q : ℕ = slice_index P.source c in
    let read = λ (o : Option At). image_cell C S q c (unwrap_or o (0, 0)) in
    through read (λ (x : At). Some x) ids ∙ ap (map read) e ∙ sym (through read (λ (at : At). stand C S P at q) ats)
  where
    through : {X Y Z : Type 0} (g : Y → Z) (f : X → Y) (xs : List X) → map (λ x. g (f x)) xs ≡ map g (map f xs)
    through g f [] = refl
    through g f (x ∷ xs) = ap (λ l. g (f x) ∷ l) (through g f xs)

-- each walked row has a cell in each column
pub walked_wide : (C : CatalogData) (S : Contents) (P : PlanData) (ats : List At) → All (λ (row : Row). length row ≡ length C.columns) (map (walked_row C S P) ats)
walked_wide C S P [] = All-nil (λ (row : Row). length row ≡ length C.columns)
walked_wide C S P (at ∷ ats) =
    All-cons (λ (row : Row). length row ≡ length C.columns) (walked_row C S P at) (map (walked_row C S P) ats) (length-map-range_with_len (walked_cell C S P at) 0 (length C.columns)) (walked_wide C S P ats)

module _ (w : PlanWalk) (c : ℕ) (h : c < length w.survivors.now.catalog.columns) where
  -- the index of a column, as it is read
  pub index_is : (j : ℕ) → j ≡ get_or w.indices.items c j → j ≡ index_of w.survivors.now.catalog w.plan.now c
  index_is j is = get_or_read w.indices.items c j (omega (arith, h, w.indices_are.count)) is 0 ∙ w.indices_are.each c h

  -- the cells of one more part
  pub part_more : (parts : List FollowedRows) (k : ℕ) (part : FollowedRows) (before : List Value) → k < length parts → part ≡ get_or parts k part → before ≡ map (λ (row : Row). cell row c) (followed_rows w (take k parts))
      → before ++ cells_of w (anchor_rows_between w part.from part.to) c ≡ map (λ (row : Row). cell row c) (followed_rows w (take (k + 1) parts))
  part_more parts k part before lt is e =
      let C = w.survivors.now.catalog in
      let S = contents_of w.survivors.now in
      let P = w.plan.now in
      let f : Row → Value = λ row. cell row c in
      let g : FollowedRows → List Row = λ x. map (walked_row C S P) (anchor_rows_between w x.from x.to) in
      let next : take (k + 1) parts ≡ take k parts ++ part ∷ [] = take_more parts k part lt ∙ ap (λ x. take k parts ++ x ∷ []) (sym is) in
      let rows : followed_rows w (take (k + 1) parts) ≡ followed_rows w (take k parts) ++ g part = ap (flat_map g) next ∙ flat_map_append g (take k parts) (part ∷ []) ∙ ap (λ l. followed_rows w (take k parts) ++ l) (append-nil (g part)) in
      (λ i. e i ++ cells_of_rows C S P c h (anchor_rows_between w part.from part.to) i)
      ∙ sym (ap (map f) rows ∙ map_append f (followed_rows w (take k parts)) (g part))
