-- If files hold a table, the walked rows are the table's rows, each once, so no other table is held.
use Rattle.std.proofs.Common.{◌≡◌, ℕ, zero, suc, ◌+◌, ◌<◌, ◌≤◌, List, [], ◌∷◌, ◌++◌, map, refl, sym, ap, subst, ◌∙◌, Bool, true, false, cond, ◌&&◌, ◌||◌, ◌⊎◌, inl, inr, Option, Some, None, length, get_or, arith, ◌==◌, eqb-true, eq-eqb, Ok, Err, pos}
use Rattle.std.specs.Prelude.{slice_index, slice_index_or, IsTrue, MatchOption}
use Rattle.std.specs.List.{slice_get, position_or_len, range_with_len, list_any, flat_map, find}
use Rattle.std.specs.Option.{option_and_then, option_map_or, is_some, is_none, unwrap_or}
use Rattle.std.specs.declared.cmp.Ordering.TheVariants.{Equal}
use Rattle.std.proofs.lemmas.Option.{get_or_from_slice_get, slice_get-get_or}
use Rattle.std.proofs.lemmas.List.FromFn.{fill_by_all}
use Rattle.std.proofs.Math.ListN.{length-map}
use Rattle.cs_schema.specs.declared.cells.Value.{Value}
use Rattle.cs_schema.specs.declared.file_name.FileName.{FileName}
use Rattle.cs_schema.specs.CatalogData.{CatalogData, projection, segments}
use Rattle.cs_schema.specs.CatalogRules.{IsCatalog}
use Rattle.cs_schema.specs.Rows.{Row, IsTable, segment_of_row, project, cell, key_cmp}
use Rattle.cs_schema.specs.Lists.{IsIn, member}
use Rattle.cs_schema.specs.FileNames.{Survives}
use Rattle.cs_schema.specs.Losses.{Sites, alive}
use Rattle.cs_schema.specs.Order.{rows_of}
use Rattle.cs_schema.specs.Lists.{numbers_below}
use Rattle.cs_delta.specs.Image.{image_rows}
use Rattle.cs_safety.specs.Paths.{Path, IsDistance, IsReached}
use Rattle.cs_safety.specs.PlanData.{PlanData, IsPlan, IsPrev, prev_of}
use Rattle.cs_rows.specs.Walk.{Contents, At, follow, stands, stand, image_cell, walked_cell, walked_row, is_astray, segment_rows, projection_rows, walked}
use Rattle.cs_safety.specs.PlanData.{is_planned}
use Rattle.cs_recovery.specs.Holding.{AreContentsOf}
use Rattle.cs_order.specs.Tables.{table_of}
use Rattle.cs_schema.proofs.Ascending.{false≢true, same_ascending, ascending_sorted, in_ascending, ascending_in}
use Rattle.cs_schema.proofs.RowOrder.{rows_of-are, tied_same, key_total}
use Rattle.cs_schema.proofs.Lists.{in_at, found_first, slice_get_map, in_map, append_left, append_right, in_append, in_range, range_in}
use Rattle.cs_safety.proofs.Distances.{distance_one, path_zero, path_exists, path_open, distance_below}
use Rattle.cs_recovery.proofs.Walks.{IsKeyed, IsHome, has_key, follow_home}
use Rattle.cs_safety.proofs.AliveLemmas.{segment_below, alive_kept}

-- ---- lists

pub none_any : {X : Type 0} (p : X → Bool) (xs : List X) → ((x : X) → IsIn x xs → p x ≡ false) → list_any p xs ≡ false
none_any p [] f = refl
none_any p (x ∷ xs) f = ap (λ b. b || list_any p xs) (f x (inl refl)) ∙ none_any p xs (λ y h. f y (inr h))

pub none_found : {X : Type 0} (p : X → Bool) (xs : List X) → ((x : X) → IsIn x xs → p x ≡ false) → find p xs ≡ None
none_found p [] f = refl
none_found p (x ∷ xs) f = ap (λ b. cond b (Some x) (find p xs)) (f x (inl refl)) ∙ none_found p xs (λ y h. f y (inr h))

pub member_in : (xs : List ℕ) (x : ℕ) → member xs x ≡ true → IsIn x xs
member_in [] x e = false≢true e
member_in (y ∷ xs) x e = go (y == x) refl e (λ k. member_in xs x k)
  where
    go : (b : Bool) → (y == x) ≡ b → (b || member xs x) ≡ true → (member xs x ≡ true → IsIn x xs) → IsIn x (y ∷ xs)
    go true k e f = inl (sym (eqb-true y x k))
    go false k e f = inr (f e)

pub map-append : {A B : Type 0} (f : A → B) (xs ys : List A) → map f (xs ++ ys) ≡ map f xs ++ map f ys
map-append f [] ys = refl
map-append f (x ∷ xs) ys = ap (λ l. f x ∷ l) (map-append f xs ys)

pub map-map : {A B D : Type 0} (f : B → D) (g : A → B) (xs : List A) → map f (map g xs) ≡ map (λ x. f (g x)) xs
map-map f g [] = refl
map-map f g (x ∷ xs) = ap (λ l. f (g x) ∷ l) (map-map f g xs)

-- the map of concatenated lists, if the map of each is known
map-flat_map : {A B D : Type 0} (f : B → D) (g : A → List B) (k : A → List D) (xs : List A) → ((x : A) → IsIn x xs → map f (g x) ≡ k x) → map f (flat_map g xs) ≡ flat_map k xs
map-flat_map f g k [] h = refl
map-flat_map f g k (x ∷ xs) h =
    map-append f (g x) (flat_map g xs) ∙ ap (λ l. l ++ map f (flat_map g xs)) (h x (inl refl)) ∙ ap (λ l. k x ++ l) (map-flat_map f g k xs (λ y i. h y (inr i)))

pub in_flat_map : {A B : Type 0} (g : A → List B) (xs : List A) (y : B) → IsIn y (flat_map g xs) → (x : A) × IsIn x xs × IsIn y (g x)
in_flat_map g [] y h = absurd h
in_flat_map g (x ∷ xs) y h =
    elim (in_append (g x) (flat_map g xs) y h) [
      | inl a ↦ (x, inl refl, a)
      | inr b ↦ let r = in_flat_map g xs y b in (r.0, inr r.1, r.2)
    ]

pub flat_map_in : {A B : Type 0} (g : A → List B) (xs : List A) (x : A) (y : B) → IsIn x xs → IsIn y (g x) → IsIn y (flat_map g xs)
flat_map_in g [] x y h k = absurd h
flat_map_in g (z ∷ xs) x y (inl e) k = append_left (g z) (flat_map g xs) y (subst (λ w. IsIn y (g w)) e k)
flat_map_in g (z ∷ xs) x y (inr h) k = append_right (g z) (flat_map g xs) y (flat_map_in g xs x y h k)

-- ---- the rows

module _ (C : CatalogData) (cat : IsCatalog C) (L : Sites) (S : Contents) (T : List Row) (table : IsTable C T) (same : AreContentsOf C L S T) (keyed : (p s : ℕ) → Survives C L (FileName.Seg p s) → IsKeyed (S.image p s)) (P : PlanData) (plan : IsPlan C L P) where
  abbrev Near : ℕ → ℕ → Type 0
  Near q d = IsDistance C (alive C L) P.anchor q d

  near_exists : (q d : ℕ) → Near q d → q < length C.projections
  near_exists q d h = path_exists C (alive C L) P.anchor plan.anchor.exists q d h.path

  near_open : (q d : ℕ) → Near q d → IsTrue (alive C L q)
  near_open q d h = path_open C (alive C L) P.anchor plan.anchor.may_start q d h.path

  at_anchor : Near P.anchor 0
  at_anchor = record { path = Path.start; least = λ m h. omega arith }

  abbrev Found : Row → At → ℕ → ℕ → Type 0
  Found r at n q = (to : At) × (stands C S P at n q ≡ Some to) × IsHome C cat L S T table same keyed q r to

  at_home : (r : Row) (at : At) → IsHome C cat L S T table same keyed P.anchor r at → (q : ℕ) → q ≡ P.anchor → IsHome C cat L S T table same keyed q r at
  at_home r at home q e = subst (λ w. IsHome C cat L S T table same keyed w r at) (sym e) home

  -- a projection that is reached and is not the anchor is entered from a nearer one
  entered : (q d : ℕ) → Near q d → ((q == P.anchor) ≡ false) → (p : ℕ) × (prev_of P q ≡ Some p) × IsPrev C L P.anchor q p
  entered q d h ne = go (prev_of P q) refl (plan.prev q (near_exists q d h))
    where
      go : (o : Option ℕ) → prev_of P q ≡ o → MatchOption o ((q ≡ P.anchor) ⊎ ¬ IsReached C (alive C L) P.anchor q) (λ p. IsPrev C L P.anchor q p) → (p : ℕ) × (prev_of P q ≡ Some p) × IsPrev C L P.anchor q p
      go (Some p) e m = (p, e, m)
      go None e (inl a) = false≢true (sym ne ∙ eq-eqb q P.anchor a)
      go None e (inr n) = absurd (n (d, h.path))

  abbrev by_prev : At → ℕ → ℕ → Option ℕ → Option At
  by_prev at n q o = option_and_then (λ p. option_and_then (follow C S p q) (stands C S P at n p)) o

  stands_home : (r : Row) (at : At) → IsIn r T → IsHome C cat L S T table same keyed P.anchor r at → (n q d : ℕ) → Near q d → d ≤ n → Found r at n q
  stands_home r at h home zero q d k l =
      let z : d ≡ 0 = omega arith in
      let e : q ≡ P.anchor = path_zero C (alive C L) P.anchor q (subst (λ w. Path C (alive C L) P.anchor q w) z k.path) in
      (at, ap (λ b. cond b (Some at) None) (eq-eqb q P.anchor e), at_home r at home q e)
  stands_home r at h home (suc n) q d k l = go (q == P.anchor) refl (λ p m x y. stands_home r at h home n p m x y)
    where
      go : (b : Bool) → (q == P.anchor) ≡ b → ((p m : ℕ) → Near p m → m ≤ n → Found r at n p) → Found r at (suc n) q
      go true e ih = (at, ap (λ b. cond b (Some at) (by_prev at n q (prev_of P q))) e, at_home r at home q (eqb-true q P.anchor e))
      go false e ih =
          let x = entered q d k e in
          let p : ℕ = x.0 in
          let m : ℕ = x.2.nearer.nearer.0 in
          let np : Near p m = x.2.nearer.nearer.1.0 in
          let dm : d ≡ suc m = distance_one C (alive C L) P.anchor q d (suc m) k x.2.nearer.nearer.1.1 in
          let f = ih p m np (omega arith) in
          let g = follow_home C cat L S T table same keyed p q r f.0 (near_exists p m np) (near_open p m np) x.2.nearer.step h f.2 in
          (g.0, ap (λ b. cond b (Some at) (by_prev at n q (prev_of P q))) e ∙ ap (by_prev at n q) x.1 ∙ ap (option_and_then (follow C S p q)) f.1 ∙ g.1, g.2)

  stand_home : (r : Row) (at : At) → IsIn r T → IsHome C cat L S T table same keyed P.anchor r at → (q d : ℕ) → Near q d → Found r at (length C.projections) q
  stand_home r at h home q d k =
      let b = distance_below C (alive C L) P.anchor plan.anchor.exists q d k in
      stands_home r at h home (length C.projections) q d k (omega (arith, b))

  planned_near : (q : ℕ) → q < length C.projections → is_planned P q ≡ true → (d : ℕ) × Near q d
  planned_near q h e = go (q == P.anchor) refl (prev_of P q) refl (plan.prev q h) e
    where
      go : (b : Bool) → (q == P.anchor) ≡ b → (o : Option ℕ) → prev_of P q ≡ o → MatchOption o ((q ≡ P.anchor) ⊎ ¬ IsReached C (alive C L) P.anchor q) (λ p. IsPrev C L P.anchor q p) → (b || is_some o) ≡ true → (d : ℕ) × Near q d
      go true a o x m t = (0, subst (λ w. Near w 0) (sym (eqb-true q P.anchor a)) at_anchor)
      go false a None x m t = false≢true t
      go false a (Some p) x m t = (suc m.nearer.nearer.0, m.nearer.nearer.1.1)

  -- no anchor row is led astray
  not_astray : (r : Row) (at : At) → IsIn r T → IsHome C cat L S T table same keyed P.anchor r at → is_astray C S P at ≡ false
  not_astray r at h home = none_any (λ q. is_planned P q && is_none (stand C S P at q)) (numbers_below (length C.projections)) (λ q i. go q (in_range 0 (length C.projections) q i).1 (is_planned P q) refl)
    where
      go : (q : ℕ) → q < 0 + length C.projections → (b : Bool) → is_planned P q ≡ b → (is_planned P q && is_none (stand C S P at q)) ≡ false
      go q l false e = ap (λ b. b && is_none (stand C S P at q)) e
      go q l true e =
          let d = planned_near q (omega (arith, l)) e in
          let f = stand_home r at h home q d.0 d.1 in
          ap (λ b. b && is_none (stand C S P at q)) e ∙ ap is_none f.1

  survives : (q d : ℕ) → Near q d → (r : Row) → Survives C L (FileName.Seg q (segment_of_row C q r))
  survives q d k r = ((near_exists q d k, segment_below C q r), alive_kept C cat L q (near_exists q d k) (near_open q d k) (segment_of_row C q r) (segment_below C q r))

  -- each walked cell is the row's
  cell_is : (r : Row) (at : At) → IsIn r T → IsHome C cat L S T table same keyed P.anchor r at → (c : ℕ) → c < length C.columns → cell r c ≡ walked_cell C S P at c
  cell_is r at h home c l =
      let src = plan.source c l in
      let q : ℕ = slice_index P.source c in
      let f = stand_home r at h home q src.distance src.at_distance in
      let to : At = f.0 in
      let v : Survives C L (FileName.Seg q to.0) = subst (λ w. Survives C L (FileName.Seg q w)) (sym f.2.segment) (survives q src.distance src.at_distance r) in
      let k = has_key C cat L S T table same keyed q to.0 to.1 r v f.2.here in
      let columns : List ℕ = (projection C q).columns in
      let found = found_first (λ d. d == c) columns c (member_in columns c src.column) (eq-eqb c c refl) in
      let j : ℕ = position_or_len (λ d. d == c) columns in
      let there : slice_get (project C q r) j ≡ Some (cell r c) = slice_get_map (cell r) columns j found.item found.at ∙ ap (λ w. Some (cell r w)) (eqb-true found.item c found.passes) in
      let row : slice_index_or (image_rows (S.image q to.0)) to.1 [] ≡ project C q r = get_or_from_slice_get (image_rows (S.image q to.0)) to.1 (project C q r) [] k.cells in
      sym (ap (λ o. image_cell C S q c (unwrap_or o (0, 0))) f.1 ∙ ap (λ w. cell w j) row ∙ get_or_from_slice_get (project C q r) j (cell r c) (Value.Int (pos 0)) there)

  -- the walk finds the row
  pub row_is : (r : Row) (at : At) → IsIn r T → IsHome C cat L S T table same keyed P.anchor r at → r ≡ walked_row C S P at
  row_is r at h home = fill_by_all (walked_cell C S P at) r (length C.columns) (Value.Int (pos 0)) (table.rows r h).0 (λ c l. cell_is r at h home c l)

  anchor_survives : (s : ℕ) → s < segments C P.anchor → Survives C L (FileName.Seg P.anchor s)
  anchor_survives s h = ((plan.anchor.exists, h), alive_kept C cat L P.anchor plan.anchor.exists plan.anchor.may_start s h)

  as_many : (s : ℕ) → s < segments C P.anchor → length (rows_of C T P.anchor s) ≡ length (S.image P.anchor s).pairs
  as_many s h =
      let e = ap length (same.images P.anchor s (anchor_survives s h)) in
      let a : length (image_rows (S.image P.anchor s)) ≡ length (S.image P.anchor s).pairs = simp length-map in
      let b : length (map (project C P.anchor) (rows_of C T P.anchor s)) ≡ length (rows_of C T P.anchor s) = simp length-map in
      sym b ∙ sym e ∙ a

  -- a row of a segment of the anchor is at home there
  home_of : (s i : ℕ) (r : Row) → slice_get (rows_of C T P.anchor s) i ≡ Some r → IsIn r T × IsHome C cat L S T table same keyed P.anchor r (s, i)
  home_of s i r e =
      let m = ((rows_of-are C T table P.anchor s).members r).0 (in_at (rows_of C T P.anchor s) i r e) in
      (m.0, record { segment = sym m.1; here = e })

  walked_at : (s i : ℕ) (r : Row) → slice_get (rows_of C T P.anchor s) i ≡ Some r → r ≡ walked_row C S P (s, i)
  walked_at s i r e = let h = home_of s i r e in row_is r (s, i) h.0 h.1

  -- the walk of a segment's rows finds the segment's rows
  pub segment_walked : (s : ℕ) → s < segments C P.anchor → map (walked_row C S P) (segment_rows S P.anchor s) ≡ rows_of C T P.anchor s
  segment_walked s h =
      let n : ℕ = length (S.image P.anchor s).pairs in
      let xs : List Row = rows_of C T P.anchor s in
      let each : (i : ℕ) → i < n → get_or xs i [] ≡ walked_row C S P (s, i) = λ i k. walked_at s i (get_or xs i []) (slice_get-get_or xs i [] (let l = as_many s h in omega arith)) in
      map-map (walked_row C S P) (λ i. (s, i)) (range_with_len 0 n) ∙ sym (fill_by_all (λ i. walked_row C S P (s, i)) xs n [] (as_many s h) each)

  -- the table's rows by the anchor's segments, each once
  pub rows_walked : map (walked_row C S P) (projection_rows C S P.anchor) ≡ flat_map (rows_of C T P.anchor) (numbers_below (segments C P.anchor))
  rows_walked = map-flat_map (walked_row C S P) (segment_rows S P.anchor) (rows_of C T P.anchor) (numbers_below (segments C P.anchor)) (λ s i. segment_walked s (let k = (in_range 0 (segments C P.anchor) s i).1 in omega arith))

  no_stray : (at : At) → IsIn at (projection_rows C S P.anchor) → is_astray C S P at ≡ false
  no_stray at h =
      let x = in_flat_map (segment_rows S P.anchor) (numbers_below (segments C P.anchor)) at h in
      let s : ℕ = x.0 in
      let n : ℕ = length (S.image P.anchor s).pairs in
      let xs : List Row = rows_of C T P.anchor s in
      let ls = (in_range 0 (segments C P.anchor) s x.1).1 in
      let l : s < segments C P.anchor = omega arith in
      let y = in_map (λ (i : ℕ). (s, i)) (numbers_below n) at x.2 in
      let li = (in_range 0 n y.0 y.1).1 in
      let r : Row = get_or xs y.0 [] in
      let m = home_of s y.0 r (slice_get-get_or xs y.0 [] (let k = as_many s l in omega arith)) in
      subst (λ w. is_astray C S P w ≡ false) (sym y.2) (not_astray r (s, y.0) m.0 m.1)

  pub walk_ends : walked C S P ≡ Ok (flat_map (rows_of C T P.anchor) (numbers_below (segments C P.anchor)))
  walk_ends =
      ap (λ o. option_map_or (λ (at : At). Err (P.anchor, at.0, at.1)) o (Ok (map (walked_row C S P) (projection_rows C S P.anchor)))) (none_found (is_astray C S P) (projection_rows C S P.anchor) no_stray)
      ∙ ap Ok rows_walked

  -- the anchor's segments have each row of the table, and no other
  pub in_segments : (r : Row) → IsIn r (flat_map (rows_of C T P.anchor) (numbers_below (segments C P.anchor))) → IsIn r T
  in_segments r h =
      let x = in_flat_map (rows_of C T P.anchor) (numbers_below (segments C P.anchor)) r h in
      (((rows_of-are C T table P.anchor x.0).members r).0 x.2).0

  pub segments_in : (r : Row) → IsIn r T → IsIn r (flat_map (rows_of C T P.anchor) (numbers_below (segments C P.anchor)))
  segments_in r h =
      let s : ℕ = segment_of_row C P.anchor r in
      let l = segment_below C P.anchor r in
      flat_map_in (rows_of C T P.anchor) (numbers_below (segments C P.anchor)) s r (range_in 0 (segments C P.anchor) s (omega arith) (omega (arith, l))) (((rows_of-are C T table P.anchor s).members r).1 (h, refl))

  -- so the table of the walked rows is the table
  pub table_walked : table_of C (flat_map (rows_of C T P.anchor) (numbers_below (segments C P.anchor))) ≡ T
  table_walked =
      let rows : List Row = flat_map (rows_of C T P.anchor) (numbers_below (segments C P.anchor)) in
      let ties : (x y : Row) → IsIn x rows → IsIn y rows → key_cmp C x y ≡ Equal → x ≡ y = λ x y i j e. tied_same (key_cmp C) (key_total C) T table.keys x y (in_segments x i) (in_segments y j) e in
      same_ascending (key_cmp C) (key_total C) (table_of C rows) T (ascending_sorted (key_cmp C) (key_total C) rows) table.keys
      (λ z h. in_segments z (in_ascending (key_cmp C) (key_total C) rows z h))
      (λ z h. ascending_in (key_cmp C) (key_total C) rows ties z (segments_in z h))
