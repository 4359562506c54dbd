-- The rows of a walk by rows are rows of the catalog: their cells have the columns' kinds.
use Rattle.std.proofs.Common.{◌≡◌, ℕ, ◌<◌, List, [], refl, sym, ap, subst, ◌∙◌, Bool, true, false, cond, Option, Some, None, length, get_or, arith, ◌==◌, eqb-true, eq-eqb, Result, Ok, Err, pos}
use Rattle.std.specs.Prelude.{slice_index, IsTrue}
use Rattle.std.specs.List.{filter_map, find, position_or_len}
use Rattle.std.specs.Option.{is_some, is_none, option_and_then, option_map_or}
use Rattle.std.proofs.lemmas.Option.{none-some, same_Some, slice_get-get_or, get_or_from_slice_get}
use Rattle.std.proofs.lemmas.List.{length-map}
use Rattle.std.proofs.lemmas.List.FromFn.{get_or-map-range_with_len, length-map-range_with_len}
use Rattle.cs_schema.specs.declared.cells.Value.{Value}
use Rattle.cs_schema.specs.declared.file_name.FileName.{FileName}
use Rattle.cs_schema.specs.CatalogData.{CatalogData, projection, column}
use Rattle.cs_schema.specs.CatalogRules.{IsCatalog}
use Rattle.cs_schema.specs.Rows.{Row, IsRow, cell}
use Rattle.cs_schema.specs.Lists.{IsIn}
use Rattle.cs_schema.specs.Values.{IsOfKind}
use Rattle.cs_schema.specs.FileNames.{Survives, FileContents}
use Rattle.cs_schema.specs.Losses.{Sites}
use Rattle.cs_schema.specs.Lists.{numbers_below}
use Rattle.cs_delta.specs.Image.{image_rows}
use Rattle.cs_safety.specs.Paths.{holds_column}
use Rattle.cs_rows.specs.Walk.{Contents, At, Stray, image_cell}
use Rattle.cs_rows.specs.WalkByRows.{Reached, Found, found_from, source_in, is_full, found_row, full_row, surviving_rows, without_repeats, walked_by_rows}
use Rattle.cs_recovery.specs.Contents.{Reads}
use Rattle.cs_schema.proofs.Lists.{in_at, range_in, found_first}
use Rattle.cs_recovery.proofs.WalkedRows.{member_in}
use Rattle.cs_recovery.proofs.KeptKinds.{image_kinds}
use Rattle.cs_recovery.proofs.Judged.{RowsKeepKinds}
use Rattle.cs_recovery.proofs.RowLists.{in_filter_map, find_in, passes_all, some_is, from_repeats}
use Rattle.cs_recovery.proofs.RowLevels.{IsKeptRow, AllKept, found_kept}
use Rattle.cs_recovery.proofs.SurvivingRows.{surviving_kept}

abbrev IsOkWalk : {A E : Type 0} → Result A E → Type 0
IsOkWalk (Ok x) = Unit {0}
IsOkWalk (Err e) = ⊥

abbrev or_rows : {A E : Type 0} → A → Result A E → A
or_rows d (Ok x) = x
or_rows d (Err e) = d

module _ (C : CatalogData) (cat : IsCatalog C) (F : FileContents) (L : Sites) (S : Contents) (reads : Reads C F L S) where
  cell_kept : (q : ℕ) (to : At) (c : ℕ) → IsKeptRow C L S q to → IsTrue (holds_column C q c) → IsOfKind (column C c).kind (image_cell C S q c to)
  cell_kept q to c k holds =
      let v : Survives C L (FileName.Seg q to.0) = ((k.exists, k.segment), k.kept) in
      let rows : List (List Value) = image_rows (S.image q to.0) in
      let below : to.1 < length rows = subst (λ n. to.1 < n) (sym (simp length-map)) k.position in
      let row : List Value = get_or rows to.1 [] in
      let cells = image_kinds C F q to.0 (S.image q to.0) (reads.images q to.0 v) row (in_at rows to.1 row (slice_get-get_or rows to.1 [] below)) in
      let columns : List ℕ = (projection C q).columns in
      let j : ℕ = position_or_len (λ d. d == c) columns in
      let found = found_first (λ d. d == c) columns c (member_in columns c holds) (eq-eqb c c refl) in
      let is : slice_index columns j ≡ c = get_or_from_slice_get columns j found.item 0 found.at ∙ eqb-true found.item c found.passes in
      let kind : IsOfKind (column C (slice_index columns j)).kind (cell row j) = cells.1 j (subst (λ n. j < n) (sym cells.0) found.below) in
      subst (λ w. IsOfKind (column C w).kind (cell row j)) is kind

  abbrev cell_from : Found → ℕ → Value
  cell_from G c = option_map_or (λ (x : Reached). image_cell C S x.0 c x.1) (source_in C G c) (Value.Int (pos 0))

  cell_found : (G : Found) → AllKept C L S G → is_full C G ≡ true → (c : ℕ) → c < length C.columns → IsOfKind (column C c).kind (cell_from G c)
  cell_found G k full c l =
      let some = some_is (source_in C G c) (passes_all (λ c. is_some (source_in C G c)) (numbers_below (length C.columns)) full c (range_in 0 (length C.columns) c (omega arith) (omega (arith, l)))) in
      let m = find_in (λ (x : Reached). holds_column C x.0 c) G.reached some.0 some.1 in
      let x : Reached = some.0 in
      let e : cell_from G c ≡ image_cell C S x.0 c x.1 = ap (λ o. option_map_or (λ (x : Reached). image_cell C S x.0 c x.1) o (Value.Int (pos 0))) some.1 in
      subst (IsOfKind (column C c).kind) (sym e) (cell_kept x.0 x.1 c (k.reached x m.0) m.1)

  row_found : (G : Found) → AllKept C L S G → is_full C G ≡ true → IsRow C (found_row C S G)
  row_found G k full = (
    length-map-range_with_len (cell_from G) 0 (length C.columns),
    λ c l. subst (IsOfKind (column C c).kind) (sym (get_or-map-range_with_len (cell_from G) 0 (length C.columns) c c (Value.Int (pos 0)) l (omega arith))) (cell_found G k full c l),
  )

  full_kinds : (G : Found) → AllKept C L S G → (r : Row) → full_row C S G ≡ Some r → IsRow C r
  full_kinds G k r e = go (is_full C G) refl e
    where
      go : (b : Bool) → is_full C G ≡ b → cond b (Some (found_row C S G)) None ≡ Some r → IsRow C r
      go true a f = subst (IsRow C) (same_Some (found_row C S G) r f) (row_found G k a)
      go false a f = absurd (none-some r f)

  row_from : Reached → Option Row
  row_from x = option_and_then (full_row C S) (found_from C L S x.0 x.1)

  from_kinds : (x : Reached) → IsIn x (surviving_rows C L S) → (r : Row) → option_and_then (full_row C S) (found_from C L S x.0 x.1) ≡ Some r → IsRow C r
  from_kinds x i r e = go (found_from C L S x.0 x.1) refl e
    where
      go : (o : Option Found) → found_from C L S x.0 x.1 ≡ o → option_and_then (full_row C S) o ≡ Some r → IsRow C r
      go None a f = absurd (none-some r f)
      go (Some G) a f = full_kinds G (found_kept C L S x.0 x.1 (surviving_kept C L S x i) G a) r f

  abbrev all_full : List Row
  all_full = filter_map (λ (x : Reached). option_and_then (full_row C S) (found_from C L S x.0 x.1)) (surviving_rows C L S)

  rows_kinds : (rows : List Row) → walked_by_rows C L S ≡ Ok rows → (r : Row) → IsIn r rows → IsRow C r
  rows_kinds rows e r h = go (find (λ (x : Reached). is_none (found_from C L S x.0 x.1)) (surviving_rows C L S)) e
    where
      go : (o : Option Reached) → ◌≡◌ {A = Result (List Row) Stray} (option_map_or (λ (x : Reached). Err (x.0, x.1.0, x.1.1)) o (Ok (without_repeats C all_full))) (Ok rows) → IsRow C r
      go (Some x) f = absurd (subst IsOkWalk (sym f) tt)
      go None f =
          let is : without_repeats C all_full ≡ rows = ap (or_rows rows) f in
          let m = in_filter_map (λ (x : Reached). option_and_then (full_row C S) (found_from C L S x.0 x.1)) (surviving_rows C L S) r (from_repeats C all_full r (subst (IsIn r) (sym is) h)) in
          from_kinds m.0 m.1 r m.2

pub rows_keep_kinds : (C : CatalogData) → IsCatalog C → (F : FileContents) (L : Sites) → RowsKeepKinds C F L
rows_keep_kinds C cat F L S reads rows e r h = rows_kinds C cat F L S reads rows e r h
