-- The cells of images and of walked rows have the columns' kinds.
use Rattle.std.proofs.Common.{◌≡◌, ◌≢◌, ℕ, zero, suc, ◌+◌, ◌<◌, List, [], ◌∷◌, ◌++◌, refl, sym, ap, subst, ◌∙◌, Bool, true, false, cond, ◌&&◌, ◌||◌, ◌⊎◌, inl, inr, Option, Some, None, length, get_or, arith, ◌==◌, eqb-true, eq-eqb, set, length-set, get_or-set_same, get_or-set_other, pos}
use Rattle.std.specs.Prelude.{nat_lt, slice_index, MatchOption}
use Rattle.std.specs.List.{slice_get, list_any, filter_map, cons_option, position_or_len}
use Rattle.std.specs.Option.{option_map, option_and_then, is_some, is_none, unwrap_or}
use Rattle.std.proofs.lemmas.Option.{none-some, same_Some, slice_get-get_or, get_or_from_slice_get, option_and_then_some}
use Rattle.std.proofs.lemmas.List.Quantifiers.{position-Some}
use Rattle.std.proofs.lemmas.List.FromFn.{get_or-map-range_with_len, length-map-range_with_len}
use Rattle.std.proofs.Math.ListN.{length-map}
use borrow.Author.Tests.{ltb-true}
use Rattle.cs_schema.specs.declared.cells.Value.{Value}
use Rattle.cs_schema.specs.declared.file_name.FileName.{FileName}
use Rattle.cs_schema.specs.CatalogData.{CatalogData, projection, segments, column}
use Rattle.cs_schema.specs.CatalogRules.{IsCatalog}
use Rattle.cs_schema.specs.Rows.{IsRow, cell}
use Rattle.cs_schema.specs.Lists.{IsIn}
use Rattle.cs_schema.specs.Values.{IsOfKind}
use Rattle.cs_schema.specs.FileNames.{Survives, FileContents}
use Rattle.cs_schema.specs.Losses.{Sites, alive}
use Rattle.cs_schema.specs.Lists.{numbers_below}
use Rattle.cs_segment.specs.SegmentFile.{Base, IsBase, base_row, base_column}
use Rattle.cs_schema.specs.CatalogData.{kind_at}
use Rattle.cs_delta.specs.Image.{Change, Pair, inserted_at, deletes, modified, kept, applied_from, base_pairs, ImageData, image_rows, image_keys, position_of_key, applied, layered}
use Rattle.cs_delta.specs.DeltaFile.{DeltaData, IsChange, IsCellsOf, AreLayersFrom, rows_after, merged}
use Rattle.cs_jix.specs.JoinIndex.{Place}
use Rattle.cs_safety.specs.PlanData.{PlanData, IsPlan, IsPrev, prev_of}
use Rattle.cs_safety.specs.Paths.{IsDistance, IsReached}
use Rattle.cs_rows.specs.Walk.{Contents, At, landed, entry_of, follow, stands, stand, image_cell, walked_cell, walked_row, is_astray, segment_rows, projection_rows}
use Rattle.cs_safety.specs.PlanData.{is_planned}
use Rattle.cs_recovery.specs.Contents.{IsImageOf, Reads}
use Rattle.cs_schema.proofs.Ascending.{false≢true}
use Rattle.cs_schema.proofs.Lists.{in_at, in_append, in_map, in_range, range_in, found_first, slice_get_map}
use Rattle.cs_safety.proofs.Distances.{path_exists, path_open}
use Rattle.cs_safety.proofs.AliveLemmas.{alive_kept}
use Rattle.cs_recovery.proofs.WalkedRows.{member_in, in_flat_map}
use Rattle.cs_recovery.proofs.Judged.{WalkKeepsKinds}

-- ---- images

inserted_kinds : (C : CatalogData) (p : ℕ) (d : DeltaData) (n : ℕ) (i : ℕ) (cs : List Change) → ((c : Change) → IsIn c cs → IsChange C p d n c) → (x : Pair) → IsIn x (filter_map (inserted_at i) cs) → IsCellsOf C p x.1
inserted_kinds C p d n i [] f x h = absurd h
inserted_kinds C p d n i (Change.insert at key row ∷ cs) f x h = go (at == i) h (λ k. inserted_kinds C p d n i cs (λ c m. f c (inr m)) x k)
  where
    go : (b : Bool) → IsIn x (cons_option (cond b (Some (key, row)) None) (filter_map (inserted_at i) cs)) → (IsIn x (filter_map (inserted_at i) cs) → IsCellsOf C p x.1) → IsCellsOf C p x.1
    go true (inl e) g = let y = f (Change.insert at key row) (inl refl) in subst (λ (w : Pair). IsCellsOf C p w.1) (sym e) y.3
    go true (inr m) g = g m
    go false m g = g m
inserted_kinds C p d n i (Change.delete at ∷ cs) f x h = inserted_kinds C p d n i cs (λ c m. f c (inr m)) x h
inserted_kinds C p d n i (Change.modify at j v ∷ cs) f x h = inserted_kinds C p d n i cs (λ c m. f c (inr m)) x h

set_kinds : (C : CatalogData) (p : ℕ) (row : List Value) (j : ℕ) (v : Value) → IsCellsOf C p row → IsOfKind (kind_at C p j) v → IsCellsOf C p (set row j v)
set_kinds C p row j v c k = (length-set row j v ∙ c.0, λ i l. go i (subst (λ n. i < n) (length-set row j v) l) (i == j) refl)
  where
    go : (i : ℕ) → i < length row → (b : Bool) → (i == j) ≡ b → IsOfKind (kind_at C p i) (cell (set row j v) i)
    go i l true e =
        let z : i ≡ j = eqb-true i j e in
        let lt : j < length row = subst (λ n. n < length row) z l in
        let at : cell (set row j v) i ≡ v = ap (cell (set row j v)) z ∙ rw get_or-set_same refl in
        subst (λ w. IsOfKind (kind_at C p i) w) (sym at) (subst (λ n. IsOfKind (kind_at C p n) v) (sym z) k)
    go i l false e =
        let ne : i ≢ j = λ w. false≢true (sym e ∙ eq-eqb i j w) in
        let at : cell (set row j v) i ≡ cell row i = rw get_or-set_other refl in
        subst (λ w. IsOfKind (kind_at C p i) w) (sym at) (c.1 i l)

modified_kinds : (C : CatalogData) (p : ℕ) (d : DeltaData) (n : ℕ) (i : ℕ) (cs : List Change) → ((c : Change) → IsIn c cs → IsChange C p d n c) → (row : List Value) → IsCellsOf C p row → IsCellsOf C p (modified i cs row)
modified_kinds C p d n i [] f row k = k
modified_kinds C p d n i (Change.insert at key x ∷ cs) f row k = modified_kinds C p d n i cs (λ c m. f c (inr m)) row k
modified_kinds C p d n i (Change.delete at ∷ cs) f row k = modified_kinds C p d n i cs (λ c m. f c (inr m)) row k
modified_kinds C p d n i (Change.modify at j v ∷ cs) f row k = modified_kinds C p d n i cs (λ c m. f c (inr m)) (cond (at == i) (set row j v) row) (go (at == i))
  where
    go : (b : Bool) → IsCellsOf C p (cond b (set row j v) row)
    go true = set_kinds C p row j v k (f (Change.modify at j v) (inl refl)).2
    go false = k

applied_kinds : (C : CatalogData) (p : ℕ) (d : DeltaData) (n : ℕ) (items : List Change) → ((c : Change) → IsIn c items → IsChange C p d n c) → (i : ℕ) (xs : List Pair) → ((x : Pair) → IsIn x xs → IsCellsOf C p x.1) → (x : Pair) → IsIn x (applied_from items i xs) → IsCellsOf C p x.1
applied_kinds C p d n items f i [] g x h = inserted_kinds C p d n i items f x h
applied_kinds C p d n items f i (y ∷ ys) g x h =
    elim (in_append (filter_map (inserted_at i) items ++ kept items i y) (applied_from items (i + 1) ys) x h) [
      | inl a ↦ elim (in_append (filter_map (inserted_at i) items) (kept items i y) x a) [ inl b ↦ inserted_kinds C p d n i items f x b | inr b ↦ old (list_any (deletes i) items) b ]
      | inr a ↦ applied_kinds C p d n items f (i + 1) ys (λ z m. g z (inr m)) x a
    ]
  where
    old : (b : Bool) → IsIn x (cond b [] ((y.0, modified i items y.1) ∷ [])) → IsCellsOf C p x.1
    old true m = absurd m
    old false (inl e) = subst (λ (w : Pair). IsCellsOf C p w.1) (sym e) (modified_kinds C p d n i items f y.1 (g y (inl refl)))
    old false (inr m) = absurd m

layered_kinds : (C : CatalogData) (p : ℕ) (d : DeltaData) (n : ℕ) (ls : List (List Change)) → AreLayersFrom C p d n ls → (xs : List Pair) → ((x : Pair) → IsIn x xs → IsCellsOf C p x.1) → (x : Pair) → IsIn x (layered ls xs) → IsCellsOf C p x.1
layered_kinds C p d n [] a xs g x h = g x h
layered_kinds C p d n (l ∷ ls) a xs g x h = layered_kinds C p d (rows_after n l) ls a.1 (applied l xs) (applied_kinds C p d n l a.0.items 0 xs g) x h

base_kinds : (C : CatalogData) (p : ℕ) (b : Base) → IsBase C p b → (i : ℕ) → i < b.rows → IsCellsOf C p (base_row b i)
base_kinds C p b k i l = (simp length-map (k.width), λ j h. go j (subst (λ n. j < n) (simp length-map) h))
  where
    go : (j : ℕ) → j < length b.columns → IsOfKind (kind_at C p j) (cell (base_row b i) j)
    go j h =
        let v : List Value = base_column b j in
        let at : slice_get (base_row b i) j ≡ Some (cell v i) = slice_get_map (λ v. cell v i) b.columns j v (slice_get-get_or b.columns j [] h) in
        let e : cell (base_row b i) j ≡ cell v i = get_or_from_slice_get (base_row b i) j (cell v i) (Value.Int (pos 0)) at in
        let below : i < length v = subst (λ n. i < n) (sym (k.lengths j h)) l in
        subst (λ w. IsOfKind (kind_at C p j) w) (sym e) ((k.columns j h).cells (cell v i) (in_at v i (cell v i) (slice_get-get_or v i (Value.Int (pos 0)) below)))

pub image_kinds : (C : CatalogData) (F : FileContents) (p s : ℕ) (m : ImageData) → IsImageOf C F p s m → (x : List Value) → IsIn x (image_rows m) → IsCellsOf C p x
image_kinds C F p s m i x h =
    let y = in_map (λ (a : Pair). a.1) (merged i.base i.changes).pairs x (subst (λ (w : ImageData). IsIn x (image_rows w)) i.image h) in
    subst (IsCellsOf C p) (sym y.2) (layered_kinds C p i.changes i.changes.rows i.changes.layers i.delta_file.delta.layers (base_pairs i.base) old y.0 y.1)
  where
    old : (a : Pair) → IsIn a (base_pairs i.base) → IsCellsOf C p a.1
    old a k =
        let z = in_map (λ j. (j + 1, base_row i.base j)) (numbers_below i.base.rows) a k in
        subst (λ (w : Pair). IsCellsOf C p w.1) (sym z.2) (base_kinds C p i.base i.segment_file.base z.0 (omega (arith, (in_range 0 i.base.rows z.0 z.1).1)))

-- ---- the walk

not_none : {A : Type 0} (o : Option A) → is_none o ≡ false → (x : A) × (o ≡ Some x)
not_none None e = false≢true (sym e)
not_none (Some x) e = (x, refl)

module _ (C : CatalogData) (cat : IsCatalog C) (F : FileContents) (L : Sites) (S : Contents) (reads : Reads C F L S) (P : PlanData) (plan : IsPlan C L P) where
  -- a row of an image
  pub record IsInside (q : ℕ) (to : At) : Type 0 where
    pub segment : to.0 < segments C q
    pub position : to.1 < length (S.image q to.0).pairs

  from_position : (q t k i : ℕ) → position_of_key (S.image q t) k ≡ Some i → i < length (S.image q t).pairs
  from_position q t k i e =
      let l = (position-Some (λ x. x == k) (image_keys (S.image q t)) i 0 e).0 in
      subst (λ n. i < n) (simp length-map) l

  landed_inside : (q : ℕ) (e : Place) (to : At) → landed C S q e ≡ Some to → IsInside q to
  landed_inside q e to x = go (nat_lt e.0 (segments C q)) refl (position_of_key (S.image q e.0) e.1) refl x
    where
      go : (b : Bool) → nat_lt e.0 (segments C q) ≡ b → (o : Option ℕ) → position_of_key (S.image q e.0) e.1 ≡ o → ◌≡◌ {A = Option At} (cond b (option_map (λ i. (e.0, i)) o) None) (Some to) → IsInside q to
      go true l (Some i) y z =
          let is : ◌≡◌ {A = At} (e.0, i) to = same_Some (e.0, i) to z in
          subst (IsInside q) is (record { segment = ltb-true e.0 (segments C q) l; position = from_position q e.0 e.1 i y })
      go true l None y z = absurd (none-some to z)
      go false l o y z = absurd (none-some to z)

  pub stands_inside : (at : At) → IsInside P.anchor at → (n q : ℕ) (to : At) → stands C S P at n q ≡ Some to → IsInside q to
  stands_inside at inside zero q to e = go (q == P.anchor) refl e
    where
      go : (b : Bool) → (q == P.anchor) ≡ b → ◌≡◌ {A = Option At} (cond b (Some at) None) (Some to) → IsInside q to
      go true x y = subst (λ w. IsInside w to) (sym (eqb-true q P.anchor x)) (subst (IsInside P.anchor) (same_Some at to y) inside)
      go false x y = absurd (none-some to y)
  stands_inside at inside (suc n) q to e = go (q == P.anchor) refl e
    where
      go : (b : Bool) → (q == P.anchor) ≡ b → ◌≡◌ {A = Option At} (cond b (Some at) (option_and_then (λ p. option_and_then (follow C S p q) (stands C S P at n p)) (prev_of P q))) (Some to) → IsInside q to
      go true x y = subst (λ w. IsInside w to) (sym (eqb-true q P.anchor x)) (subst (IsInside P.anchor) (same_Some at to y) inside)
      go false x y =
          option_and_then_some (λ p. option_and_then (follow C S p q) (stands C S P at n p)) (prev_of P q) to y (λ p a b.
          option_and_then_some (follow C S p q) (stands C S P at n p) to b (λ from c d.
          option_and_then_some (landed C S q) (entry_of S p q from) to d (λ place f g. landed_inside q place to g)))

  -- a projection that is reached is planned
  reached_planned : (q d : ℕ) → IsDistance C (alive C L) P.anchor q d → is_planned P q ≡ true
  reached_planned q d k = go (q == P.anchor) refl (prev_of P q) refl (plan.prev q (path_exists C (alive C L) P.anchor plan.anchor.exists q d k.path))
    where
      go : (b : Bool) → (q == P.anchor) ≡ b → (o : Option ℕ) → prev_of P q ≡ o → MatchOption o ((q ≡ P.anchor) ⊎ ¬ IsReached C (alive C L) P.anchor q) (λ p. IsPrev C L P.anchor q p) → (b || is_some o) ≡ true
      go true x o y m = refl
      go false x (Some p) y m = refl
      go false x None y (inl e) = false≢true (sym x ∙ eq-eqb q P.anchor e)
      go false x None y (inr n) = absurd (n (d, k.path))

  any_false : {X : Type 0} (p : X → Bool) (xs : List X) → list_any p xs ≡ false → (x : X) → IsIn x xs → p x ≡ false
  any_false p [] e x h = absurd h
  any_false p (y ∷ ys) e x h = go (p y) refl e h (λ f k. any_false p ys f x k)
    where
      go : (b : Bool) → p y ≡ b → (b || list_any p ys) ≡ false → IsIn x (y ∷ ys) → (list_any p ys ≡ false → IsIn x ys → p x ≡ false) → p x ≡ false
      go true k f h r = false≢true (sym f)
      go false k f (inl a) r = ap p a ∙ k
      go false k f (inr m) r = r f m

  pub anchor_inside : (at : At) → IsIn at (projection_rows C S P.anchor) → IsInside P.anchor at
  anchor_inside at h =
      let x = in_flat_map (segment_rows S P.anchor) (numbers_below (segments C P.anchor)) at h in
      let y = in_map (λ (i : ℕ). (x.0, i)) (numbers_below (length (S.image P.anchor x.0).pairs)) at x.2 in
      let ls = (in_range 0 (segments C P.anchor) x.0 x.1).1 in
      let li = (in_range 0 (length (S.image P.anchor x.0).pairs) y.0 y.1).1 in
      subst (IsInside P.anchor) (sym y.2) (record { segment = omega (arith, ls); position = omega (arith, li) })

  pub stands_there : (at : At) → is_astray C S P at ≡ false → (q d : ℕ) → IsDistance C (alive C L) P.anchor q d → (to : At) × (stand C S P at q ≡ Some to)
  stands_there at straight q d k =
      let l = path_exists C (alive C L) P.anchor plan.anchor.exists q d k.path in
      let a : (is_planned P q && is_none (stand C S P at q)) ≡ false = any_false (λ x. is_planned P x && is_none (stand C S P at x)) (numbers_below (length C.projections)) straight q (range_in 0 (length C.projections) q (omega arith) (omega (arith, l))) in
      not_none (stand C S P at q) (sym (ap (λ b. b && is_none (stand C S P at q)) (reached_planned q d k)) ∙ a)

  cell_kind : (at : At) → IsIn at (projection_rows C S P.anchor) → is_astray C S P at ≡ false → (c : ℕ) → c < length C.columns → IsOfKind (column C c).kind (walked_cell C S P at c)
  cell_kind at h straight c l =
      let src = plan.source c l in
      let q : ℕ = slice_index P.source c in
      let there = stands_there at straight q src.distance src.at_distance in
      let to : At = there.0 in
      let inside = stands_inside at (anchor_inside at h) (length C.projections) q to there.1 in
      let hq = path_exists C (alive C L) P.anchor plan.anchor.exists q src.distance src.at_distance.path in
      let aq = path_open C (alive C L) P.anchor plan.anchor.may_start q src.distance src.at_distance.path in
      let v : Survives C L (FileName.Seg q to.0) = ((hq, inside.segment), alive_kept C cat L q hq aq to.0 inside.segment) in
      let rows : List (List Value) = image_rows (S.image q to.0) in
      let below : to.1 < length rows = subst (λ n. to.1 < n) (sym (simp length-map)) inside.position in
      let row : List Value = get_or rows to.1 [] in
      let cells = image_kinds C F q to.0 (S.image q to.0) (reads.images q to.0 v) row (in_at rows to.1 row (slice_get-get_or rows to.1 [] below)) in
      let columns : List ℕ = (projection C q).columns in
      let j : ℕ = position_or_len (λ d. d == c) columns in
      let found = found_first (λ d. d == c) columns c (member_in columns c src.column) (eq-eqb c c refl) in
      let is : slice_index columns j ≡ c = get_or_from_slice_get columns j found.item 0 found.at ∙ eqb-true found.item c found.passes in
      let kind : IsOfKind (column C (slice_index columns j)).kind (cell row j) = cells.1 j (subst (λ n. j < n) (sym cells.0) found.below) in
      let value : walked_cell C S P at c ≡ cell row j = ap (λ o. image_cell C S q c (unwrap_or o (0, 0))) there.1 in
      subst (IsOfKind (column C c).kind) (sym value) (subst (λ w. IsOfKind (column C w).kind (cell row j)) is kind)

  row_kinds : (at : At) → IsIn at (projection_rows C S P.anchor) → is_astray C S P at ≡ false → IsRow C (walked_row C S P at)
  row_kinds at h straight = (
    length-map-range_with_len (walked_cell C S P at) 0 (length C.columns),
    λ c l. subst (IsOfKind (column C c).kind) (sym (get_or-map-range_with_len (walked_cell C S P at) 0 (length C.columns) c c (Value.Int (pos 0)) l (omega arith))) (cell_kind at h straight c l),
  )

pub walk_keeps_kinds : (C : CatalogData) → IsCatalog C → (F : FileContents) (L : Sites) → WalkKeepsKinds C F L
walk_keeps_kinds C cat F L S P reads plan at h straight = row_kinds C cat F L S reads P plan at h straight
