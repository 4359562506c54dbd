-- Two readings of the surviving files give the same walk by rows.
use Rattle.std.proofs.Common.{◌≡◌, ℕ, suc, zero, ◌<◌, List, [], ◌∷◌, map, refl, sym, ap, ◌∙◌, Bool, true, false, not, cond, ◌||◌, Option, Some, None, length, arith, ◌==◌, Result, Ok, Err, pos}
use Rattle.std.specs.Prelude.{slice_index, slice_index_or, nat_lt}
use Rattle.std.specs.List.{filter, filter_map, find, list_any, position_or_len}
use Rattle.std.specs.Option.{is_none, option_map, option_and_then, option_map_or}
use borrow.Author.Tests.{ltb-true}
use Rattle.cs_schema.specs.declared.cells.Value.{Value}
use Rattle.cs_schema.specs.declared.file_name.FileName.{FileName}
use Rattle.cs_schema.specs.CatalogData.{CatalogData, projection, segments, has_join}
use Rattle.cs_schema.specs.CatalogRules.{IsCatalog}
use Rattle.cs_schema.specs.Rows.{Row, cell}
use Rattle.cs_schema.specs.Lists.{IsIn, member}
use Rattle.cs_schema.specs.FileNames.{Survives, FileContents}
use Rattle.cs_schema.specs.Losses.{Sites, lost}
use Rattle.cs_schema.specs.Lists.{numbers_below}
use Rattle.cs_delta.specs.Image.{ImageData, image_keys, image_rows, position_of_key}
use Rattle.cs_jix.specs.JoinIndex.{Place, entry_at}
use Rattle.cs_safety.specs.Paths.{holds_column}
use Rattle.cs_rows.specs.Walk.{Contents, At, Stray, entry_of, image_cell, segment_rows, projection_rows}
use Rattle.cs_rows.specs.WalkByRows.{Reached, Found, numbers_of, Landing, landing, entrance, looked_at, is_stray_landing, level, with_level, found, found_from, source_in, is_full, full_row, surviving_rows, without_repeats, walked_by_rows}
use Rattle.cs_recovery.specs.Contents.{Reads}
use Rattle.cs_schema.proofs.Lists.{in_range, in_map}
use Rattle.cs_recovery.proofs.Exact.{Layers}
use Rattle.cs_recovery.proofs.RowLists.{filter_map_same, find_in, find_same, map_same, flat_map_same, filter_none, filter_flat_map}
use Rattle.cs_recovery.proofs.RowLevels.{IsKeptRow, AllKept, kept_level, kept_start, found_kept, next}
use Rattle.cs_recovery.proofs.SurvivingRows.{surviving_kept}

module _ (C : CatalogData) (cat : IsCatalog C) (layers : Layers C) (F : FileContents) (L : Sites) (S S' : Contents) (r : Reads C F L S) (r' : Reads C F L S') where
  same_image : (p s : ℕ) → Survives C L (FileName.Seg p s) → S.image p s ≡ S'.image p s
  same_image p s h = layers.one_image F p s h.0 (S.image p s) (S'.image p s) (r.images p s h) (r'.images p s h)

  same_join : (p s q : ℕ) → Survives C L (FileName.Jix p s q) → S.join p s q ≡ S'.join p s q
  same_join p s q h = layers.one_join F p s q (S.join p s q) (S'.join p s q) (r.joins p s q h) (r'.joins p s q h)

  abbrev land : ℕ → Place → Bool → Bool → ImageData → Landing
  land q e b l m = cond b (cond l Landing.in_lost (option_map_or (λ i. Landing.at_row (e.0, i)) (position_of_key m e.1) Landing.astray)) Landing.astray

  same_landing : (q : ℕ) → q < length C.projections → (o : Option Place) → landing C L S q o ≡ landing C L S' q o
  same_landing q hq None = refl
  same_landing q hq (Some e) = go (nat_lt e.0 (segments C q)) refl (lost C L q e.0) refl
    where
      go : (b : Bool) → nat_lt e.0 (segments C q) ≡ b → (l : Bool) → lost C L q e.0 ≡ l → landing C L S q (Some e) ≡ landing C L S' q (Some e)
      go false a l k = ap (λ b. land q e b (lost C L q e.0) (S.image q e.0)) a ∙ sym (ap (λ b. land q e b (lost C L q e.0) (S'.image q e.0)) a)
      go true a true k =
          let both : (m : ImageData) → land q e (nat_lt e.0 (segments C q)) (lost C L q e.0) m ≡ Landing.in_lost = λ m. ap (λ b. land q e b (lost C L q e.0) m) a ∙ ap (λ l. land q e true l m) k in
          both (S.image q e.0) ∙ sym (both (S'.image q e.0))
      go true a false k = ap (land q e (nat_lt e.0 (segments C q)) (lost C L q e.0)) (same_image q e.0 ((hq, ltb-true e.0 (segments C q) a), k))

  same_entry : (p q : ℕ) (at : At) → IsKeptRow C L S p at → has_join C p q ≡ true → entry_of S p q at ≡ entry_of S' p q at
  same_entry p q at k j =
      let m = same_image p at.0 ((k.exists, k.segment), k.kept) in
      let n = same_join p at.0 q (((k.exists, k.segment), j), k.kept) in
      λ i. entry_at (n i) (slice_index (image_keys (m i)) at.1)

  same_look : (G : Found) → AllKept C L S G → (q : ℕ) → q < length C.projections → looked_at C L S G q ≡ looked_at C L S' G q
  same_look G k q hq = go (entrance C G q) refl
    where
      look : Contents → Option Reached → Option (ℕ × Landing)
      look X o = cond (member (numbers_of G.reached) q || member G.marked q) None (option_map (λ (x : Reached). (q, landing C L X q (entry_of X x.0 q x.1))) o)

      go : (o : Option Reached) → entrance C G q ≡ o → look S o ≡ look S' o
      go None e = refl
      go (Some x) e =
          let m = find_in (λ (y : Reached). has_join C y.0 q) G.last x e in
          let kept = k.reached x (k.last x m.0) in
          let f : landing C L S q (entry_of S x.0 q x.1) ≡ landing C L S' q (entry_of S' x.0 q x.1) = same_landing q hq (entry_of S x.0 q x.1) ∙ ap (landing C L S' q) (same_entry x.0 q x.1 kept m.1) in
          ap (λ l. cond (member (numbers_of G.reached) q || member G.marked q) None (Some (q, l))) f

  same_level : (G : Found) → AllKept C L S G → level C L S G ≡ level C L S' G
  same_level G k = filter_map_same (looked_at C L S G) (looked_at C L S' G) (numbers_below (length C.projections)) (λ q i. same_look G k q (let l = (in_range 0 (length C.projections) q i).1 in omega arith))

  same_found : (n : ℕ) (G : Found) → AllKept C L S G → found C L S n G ≡ found C L S' n G
  same_found zero G k = refl
  same_found (suc n) G k =
      ap (λ o. cond (list_any is_stray_landing (level C L S G)) None o) (same_found n (next C L S G) (kept_level C L S G k))
      ∙ ap (λ l. cond (list_any is_stray_landing l) None (found C L S' n (with_level G l))) (same_level G k)

  same_from : (x : Reached) → IsIn x (surviving_rows C L S) → found_from C L S x.0 x.1 ≡ found_from C L S' x.0 x.1
  same_from x i = same_found (length C.projections) (record { reached = (x.0, x.1) ∷ []; last = (x.0, x.1) ∷ []; marked = [] }) (kept_start C L S x.0 x.1 (surviving_kept C L S x i))

  abbrev cell_from : Contents → ℕ → Option Reached → Value
  cell_from X c o = option_map_or (λ (x : Reached). image_cell C X x.0 c x.1) o (Value.Int (pos 0))

  same_cell : (G : Found) → AllKept C L S G → (c : ℕ) → cell_from S c (source_in C G c) ≡ cell_from S' c (source_in C G c)
  same_cell G k c = go (source_in C G c) refl
    where
      go : (o : Option Reached) → source_in C G c ≡ o → cell_from S c o ≡ cell_from S' c o
      go None e = refl
      go (Some x) e =
          let m = find_in (λ (y : Reached). holds_column C y.0 c) G.reached x e in
          let kept = k.reached x m.0 in
          ap (λ (w : ImageData). cell (slice_index_or (image_rows w) x.1.1 []) (position_or_len (λ d. d == c) (projection C x.0).columns)) (same_image x.0 x.1.0 ((kept.exists, kept.segment), kept.kept))

  same_full : (G : Found) → AllKept C L S G → full_row C S G ≡ full_row C S' G
  same_full G k = ap (λ w. cond (is_full C G) (Some w) None) (map_same (λ c. cell_from S c (source_in C G c)) (λ c. cell_from S' c (source_in C G c)) (numbers_below (length C.columns)) (λ c i. same_cell G k c))

  same_row_from : (x : Reached) → IsIn x (surviving_rows C L S) → option_and_then (full_row C S) (found_from C L S x.0 x.1) ≡ option_and_then (full_row C S') (found_from C L S' x.0 x.1)
  same_row_from x i = go (found_from C L S x.0 x.1) refl ∙ ap (option_and_then (full_row C S')) (same_from x i)
    where
      go : (o : Option Found) → found_from C L S x.0 x.1 ≡ o → option_and_then (full_row C S) (found_from C L S x.0 x.1) ≡ option_and_then (full_row C S') (found_from C L S x.0 x.1)
      go None e = ap (option_and_then (full_row C S)) e ∙ sym (ap (option_and_then (full_row C S')) e)
      go (Some G) e =
          ap (option_and_then (full_row C S)) e ∙ same_full G (found_kept C L S x.0 x.1 (surviving_kept C L S x i) G e) ∙ sym (ap (option_and_then (full_row C S')) e)

  -- the rows of surviving segments
  abbrev stays : ℕ → At → Bool
  stays p at = not (lost C L p at.0)

  same_segment : (p s : ℕ) → p < length C.projections → s < segments C p → filter (stays p) (segment_rows S p s) ≡ filter (stays p) (segment_rows S' p s)
  same_segment p s hp hs = go (lost C L p s) refl
    where
      gone : lost C L p s ≡ true → (X : Contents) → filter (stays p) (segment_rows X p s) ≡ []
      gone e X = filter_none (stays p) (segment_rows X p s) (λ at i. let m = in_map (λ (j : ℕ). (s, j)) (numbers_below (length (X.image p s).pairs)) at i in ap (λ (w : At). stays p w) m.2 ∙ ap not e)

      go : (b : Bool) → lost C L p s ≡ b → filter (stays p) (segment_rows S p s) ≡ filter (stays p) (segment_rows S' p s)
      go true e = gone e S ∙ sym (gone e S')
      go false e = ap (λ (m : ImageData). filter (stays p) (map (λ i. (s, i)) (numbers_below (length m.pairs)))) (same_image p s ((hp, hs), e))

  same_surviving : surviving_rows C L S ≡ surviving_rows C L S'
  same_surviving = flat_map_same (λ p. map (λ (at : At). (p, at)) (filter (stays p) (projection_rows C S p))) (λ p. map (λ (at : At). (p, at)) (filter (stays p) (projection_rows C S' p))) (numbers_below (length C.projections)) (λ p i.
      let hp : p < length C.projections = (let l = (in_range 0 (length C.projections) p i).1 in omega arith) in
      ap (map (λ (at : At). (p, at)))
      (filter_flat_map (stays p) (segment_rows S p) (numbers_below (segments C p))
      ∙ flat_map_same (λ s. filter (stays p) (segment_rows S p s)) (λ s. filter (stays p) (segment_rows S' p s)) (numbers_below (segments C p)) (λ s j. same_segment p s hp (let l = (in_range 0 (segments C p) s j).1 in omega arith))
      ∙ sym (filter_flat_map (stays p) (segment_rows S' p) (numbers_below (segments C p)))))

  abbrev ended : List Reached → (Reached → Option Row) → Option Reached → Result (List Row) Stray
  ended xs f o = option_map_or (λ (x : Reached). Err (x.0, x.1.0, x.1.1)) o (Ok (without_repeats C (filter_map f xs)))

  pub same_row_walk : walked_by_rows C L S ≡ walked_by_rows C L S'
  same_row_walk =
      let stray : Contents → Reached → Bool = λ X x. is_none (found_from C L X x.0 x.1) in
      let row : Contents → Reached → Option Row = λ X x. option_and_then (full_row C X) (found_from C L X x.0 x.1) in
      let a : find (stray S) (surviving_rows C L S) ≡ find (stray S') (surviving_rows C L S) = find_same (stray S) (stray S') (surviving_rows C L S) (λ x i. ap is_none (same_from x i)) in
      let b : filter_map (row S) (surviving_rows C L S) ≡ filter_map (row S') (surviving_rows C L S) = filter_map_same (row S) (row S') (surviving_rows C L S) same_row_from in
      ap (λ o. option_map_or (λ (x : Reached). Err (x.0, x.1.0, x.1.1)) o (Ok (without_repeats C (filter_map (row S) (surviving_rows C L S))))) a
      ∙ ap (λ ys. option_map_or (λ (x : Reached). Err (x.0, x.1.0, x.1.1)) (find (stray S') (surviving_rows C L S)) (Ok (without_repeats C ys))) b
      ∙ ap (λ xs. option_map_or (λ (x : Reached). Err (x.0, x.1.0, x.1.1)) (find (stray S') xs) (Ok (without_repeats C (filter_map (row S') xs)))) same_surviving
