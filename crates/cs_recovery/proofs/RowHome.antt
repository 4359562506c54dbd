-- If files hold a table and a loss leaves every row reachable, the walk by rows finds the rows of the table.
use Rattle.std.proofs.Common.{◌≡◌, ℕ, zero, suc, ◌<◌, List, [], ◌∷◌, ◌++◌, map, refl, sym, ap, subst, ◌∙◌, Bool, true, false, not, cond, ◌||◌, ◌⊎◌, inl, inr, Option, Some, None, length, get_or, arith, Ok, Err, pos}
use Rattle.std.specs.Prelude.{IsTrue}
use Rattle.std.specs.List.{filter_map, list_any, slice_get}
use Rattle.std.specs.Option.{is_some, is_none, option_and_then, option_map_or}
use Rattle.std.specs.Cmp.{Equal-is}
use Rattle.std.specs.declared.cmp.Ordering.TheVariants.{Equal}
use Rattle.std.proofs.lemmas.Option.{none-some, same_Some, slice_get-get_or, slice_get_within}
use Rattle.std.proofs.lemmas.List.{length-map}
use Rattle.std.proofs.lemmas.List.FromFn.{fill_by_all}
use Rattle.cs_schema.specs.declared.cells.Value.{Value}
use Rattle.cs_schema.specs.declared.file_name.FileName.{FileName}
use Rattle.cs_schema.specs.CatalogData.{CatalogData, segments, has_join}
use Rattle.cs_schema.specs.CatalogRules.{IsCatalog}
use Rattle.cs_schema.specs.Rows.{Row, IsTable, segment_of_row, project, key_cmp}
use Rattle.cs_schema.specs.Lists.{IsIn, member}
use Rattle.cs_schema.specs.FileNames.{Survives}
use Rattle.cs_schema.specs.Losses.{Sites, lost}
use Rattle.cs_schema.specs.Order.{rows_of}
use Rattle.cs_schema.specs.Lists.{numbers_below}
use Rattle.cs_delta.specs.Image.{image_rows}
use Rattle.cs_safety.specs.Paths.{Step, Path, IsSuitable, holds_column}
use Rattle.cs_safety.specs.Safety.{IsSafeByRows, with_row}
use Rattle.cs_rows.specs.Walk.{Contents, At, entry_of, image_cell}
use Rattle.cs_rows.specs.WalkByRows.{Reached, Found, numbers_of, Landing, landing, looked_at, is_stray_landing, row_landing, lost_landing, level, found, found_from, source_in, is_full, found_row, full_row, surviving_rows, without_repeats, walked_by_rows}
use Rattle.cs_recovery.specs.Holding.{AreContentsOf}
use Rattle.cs_order.specs.Tables.{table_of}
use Rattle.cs_schema.proofs.Ascending.{false≢true, same_ascending, ascending_sorted, in_ascending, ascending_in}
use Rattle.cs_schema.proofs.RowOrder.{rows_of-are, tied_same, key_total}
use Rattle.cs_schema.proofs.Lists.{in_at, in_append, in_map, map_in, in_range, range_in, append_left, append_right}
use Rattle.cs_safety.proofs.Distances.{last_step, path_zero}
use Rattle.cs_recovery.proofs.Walks.{IsKeyed, IsHome, has_index}
use Rattle.cs_safety.proofs.AliveLemmas.{segment_below}
use Rattle.cs_recovery.proofs.WalkedRows.{none_any, none_found, member_in, map-append}
use Rattle.cs_recovery.proofs.RowLists.{in_filter_map, filter_map_in, find_in, find_some, all_pass, passes_all, some_is, from_repeats, to_repeats}
use Rattle.cs_recovery.proofs.RowSteps.{Landed, landing_home, image_cell_is}
use Rattle.cs_recovery.proofs.RowLevels.{Looked, looks, in_level, in_rows, in_marks, rows_at, next, IsKeptRow, found_ends}
use Rattle.cs_recovery.proofs.RowLandings.{row_in}
use Rattle.cs_recovery.proofs.SurvivingRows.{not_so, kept_surviving, surviving_kept}

module _ (C : CatalogData) (cat : IsCatalog C) (L : Sites) (S : Contents) (T : List Row) (table : IsTable C T) (same : AreContentsOf C L S T) (keyed : (p s : ℕ) → Survives C L (FileName.Seg p s) → IsKeyed (S.image p s)) where
  abbrev Home : ℕ → Row → At → Type 0
  Home q r at = IsHome C cat L S T table same keyed q r at

  abbrev Ends : ℕ → Row → Landing → Type 0
  Ends q r l = Landed C cat L S T table same keyed q r l

  -- a walk has reached the row in this projection
  pub record OnRow (r : Row) (x : Reached) : Type 0 where
    pub exists : x.0 < length C.projections
    pub home : Home x.0 r x.1
    pub kept : lost C L x.0 x.1.0 ≡ false

  -- What a walk from a row of the table has found: the rows reached are this row, it is lost in the marked projections,
  -- and a step from a projection reached before the last level leads to one that is reached.
  pub record AtHome (r : Row) (F : Found) : Type 0 where
    pub reached : (x : Reached) → IsIn x F.reached → OnRow r x
    pub last : (x : Reached) → IsIn x F.last → IsIn x F.reached
    pub marked : (q : ℕ) → IsIn q F.marked → lost C L q (segment_of_row C q r) ≡ true
    pub closed : (p : ℕ) → IsIn p (numbers_of F.reached) → IsIn p (numbers_of F.last) ⊎ ((q : ℕ) → Step C (with_row C L r) p q → IsIn q (numbers_of F.reached))

  looked_home : (r : Row) → IsIn r T → (F : Found) → AtHome r F → (q : ℕ) (l : Landing) → q < length C.projections → Looked C L S F q l → Ends q r l
  looked_home r hr F h q l hq k =
      let m = find_in (λ (x : Reached). has_join C x.0 q) F.last k.from k.entered in
      let x = h.reached k.from (h.last k.from m.0) in
      subst (Ends q r) k.is (landing_home C cat L S T table same keyed k.from.0 q r k.from.1 x.exists hq m.1 hr x.home x.kept)

  straight : (q : ℕ) (r : Row) (l : Landing) → Ends q r l → is_stray_landing (q, l) ≡ false
  straight q r l (inl x) = subst (λ w. is_stray_landing (q, w) ≡ false) (sym x.1) refl
  straight q r l (inr x) = subst (λ w. is_stray_landing (q, w) ≡ false) (sym x.2) refl

  at_row : (q : ℕ) (r : Row) (at : At) → q < length C.projections → Ends q r (Landing.at_row at) → OnRow r (q, at)
  at_row q r at hq (inl x) = absurd (none-some at (sym (ap row_in x.1)))
  at_row q r at hq (inr x) =
      let e : x.0 ≡ at = sym (same_Some at x.0 (ap row_in x.2)) in
      let home : Home q r at = subst (Home q r) e x.3 in
      record { exists = hq; home = home; kept = subst (λ w. lost C L q w ≡ false) (sym home.segment) x.1 }

  in_lost : (q : ℕ) (r : Row) → Ends q r Landing.in_lost → lost C L q (segment_of_row C q r) ≡ true
  in_lost q r (inl x) = x.0
  in_lost q r (inr x) = absurd (none-some x.0 (ap row_in x.2))

  no_stray : (r : Row) → IsIn r T → (F : Found) → AtHome r F → list_any is_stray_landing (level C L S F) ≡ false
  no_stray r hr F h = none_any is_stray_landing (level C L S F) (λ y i. let k = in_level C L S F y i in straight y.0 r y.1 (looked_home r hr F h y.0 y.1 k.0 k.1))

  either : (b c : Bool) → (b || c) ≡ true → (b ≡ true) ⊎ (c ≡ true)
  either true c e = inl refl
  either false c e = inr e

  home_level : (r : Row) → IsIn r T → (F : Found) → AtHome r F → AtHome r (next C L S F)
  home_level r hr F h = record {
    reached = λ x i. elim (in_append F.reached (rows_at C L S F) x i) [
      | inl j ↦ h.reached x j
      | inr j ↦ let m = in_rows C L S F x j in at_row x.0 r x.1 m.0 (looked_home r hr F h x.0 (Landing.at_row x.1) m.0 m.1)
    ];
    last = λ x i. append_right F.reached (rows_at C L S F) x i;
    marked = λ q i. elim (in_append F.marked (filter_map lost_landing (level C L S F)) q i) [
      | inl j ↦ h.marked q j
      | inr j ↦ let m = in_marks C L S F q j in in_lost q r (looked_home r hr F h q Landing.in_lost m.0 m.1)
    ];
    closed = λ p i. old_or_new p (in_append (numbers_of F.reached) (numbers_of (rows_at C L S F)) p (subst (IsIn p) split i));
  }
    where
      split : numbers_of (F.reached ++ rows_at C L S F) ≡ numbers_of F.reached ++ numbers_of (rows_at C L S F)
      split = map-append (λ (r : Reached). r.0) F.reached (rows_at C L S F)

      All : List ℕ
      All = numbers_of (F.reached ++ rows_at C L S F)

      left : (q : ℕ) → IsIn q (numbers_of F.reached) → IsIn q All
      left q i = subst (IsIn q) (sym split) (append_left (numbers_of F.reached) (numbers_of (rows_at C L S F)) q i)

      right : (q : ℕ) → IsIn q (numbers_of (rows_at C L S F)) → IsIn q All
      right q i = subst (IsIn q) (sym split) (append_right (numbers_of F.reached) (numbers_of (rows_at C L S F)) q i)

      not_lost : (q : ℕ) → IsTrue (with_row C L r q) → lost C L q (segment_of_row C q r) ≡ true → ⊥
      not_lost q t l = false≢true (sym (ap not l) ∙ t)

      arrives : (q : ℕ) (l : Landing) → q < length C.projections → IsTrue (with_row C L r q) → looked_at C L S F q ≡ Some (q, l) → Ends q r l → IsIn q All
      arrives q l hq t e (inl x) = absurd (not_lost q t x.0)
      arrives q l hq t e (inr x) =
          let in_level : IsIn (q, l) (level C L S F) = filter_map_in (looked_at C L S F) (numbers_below (length C.projections)) q (q, l) (range_in 0 (length C.projections) q (omega arith) (omega (arith, hq))) e in
          let in_row : IsIn (q, x.0) (rows_at C L S F) = filter_map_in row_landing (level C L S F) (q, l) (q, x.0) in_level (ap (λ w. row_landing (q, w)) x.2) in
          right q (map_in (λ (r : Reached). r.0) (rows_at C L S F) (q, x.0) in_row)

      seen : (q : ℕ) → IsTrue (with_row C L r q) → ((member (numbers_of F.reached) q ≡ true) ⊎ (member F.marked q ≡ true)) → IsIn q All
      seen q t (inl e) = left q (member_in (numbers_of F.reached) q e)
      seen q t (inr e) = absurd (not_lost q t (h.marked q (member_in F.marked q e)))

      entered : (p q : ℕ) → IsIn p (numbers_of F.last) → Step C (with_row C L r) p q → IsIn q All
      entered p q i step = go (member (numbers_of F.reached) q || member F.marked q) refl
        where
          go : (b : Bool) → (member (numbers_of F.reached) q || member F.marked q) ≡ b → IsIn q All
          go true e = seen q step.may_enter (either (member (numbers_of F.reached) q) (member F.marked q) e)
          go false e =
              let x = in_map (λ (r : Reached). r.0) F.last p i in
              let f = find_some (λ (y : Reached). has_join C y.0 q) F.last x.0 x.1 (subst (λ w. has_join C w q ≡ true) x.2 step.declared) in
              let l : Landing = landing C L S q (entry_of S f.0.0 q f.0.1) in
              let k : Looked C L S F q l = record { unseen = e; from = f.0; entered = f.1; is = refl } in
              arrives q l step.exists step.may_enter (looks C L S F q l k) (looked_home r hr F h q l step.exists k)

      old_or_new : (p : ℕ) → IsIn p (numbers_of F.reached) ⊎ IsIn p (numbers_of (rows_at C L S F)) → IsIn p (numbers_of (rows_at C L S F)) ⊎ ((q : ℕ) → Step C (with_row C L r) p q → IsIn q All)
      old_or_new p (inr j) = inl j
      old_or_new p (inl i) = elim (h.closed p i) [
        | inl j ↦ inr (λ q s. entered p q j s)
        | inr f ↦ inr (λ q s. left q (f q s))
      ]

  -- what the walk from a row finds
  pub record IsFoundFrom (r : Row) (n : ℕ) (F : Found) : Type 0 where
    pub result : Found
    pub is : found C L S n F ≡ Some result
    pub home : AtHome r result
    pub keeps : (x : Reached) → IsIn x F.reached → IsIn x result.reached

  found_home : (r : Row) → IsIn r T → (n : ℕ) (F : Found) → AtHome r F → IsFoundFrom r n F
  found_home r hr zero F h = record { result = F; is = refl; home = h; keeps = λ x i. i }
  found_home r hr (suc n) F h =
      let k = found_home r hr n (next C L S F) (home_level r hr F h) in
      record {
        result = k.result;
        is = ap (λ b. cond b None (found C L S n (next C L S F))) (no_stray r hr F h) ∙ k.is;
        home = k.home;
        keeps = λ x i. k.keeps x (append_left F.reached (rows_at C L S F) x i);
      }

  abbrev start : ℕ → At → Found
  start p at = record { reached = (p, at) ∷ []; last = (p, at) ∷ []; marked = [] }

  start_home : (r : Row) (p : ℕ) (at : At) → OnRow r (p, at) → AtHome r (start p at)
  start_home r p at k = record { reached = λ x i. only x i; last = λ x i. i; marked = λ q i. absurd i; closed = λ q i. inl i }
    where
      only : (x : Reached) → IsIn x ((p, at) ∷ []) → OnRow r x
      only x (inl e) = subst (OnRow r) (sym e) k
      only x (inr i) = absurd i

  pub from_row : (r : Row) → IsIn r T → (p : ℕ) (at : At) → OnRow r (p, at) → IsFoundFrom r (length C.projections) (start p at)
  from_row r hr p at k = found_home r hr (length C.projections) (start p at) (start_home r p at k)

  -- each path through projections that have the row is found
  path_found : (r : Row) (F : Found) → AtHome r F → F.last ≡ [] → (a : ℕ) → IsIn a (numbers_of F.reached) → (n q : ℕ) → Path C (with_row C L r) a q n → IsIn q (numbers_of F.reached)
  path_found r F h e a i zero q p = subst (λ w. IsIn w (numbers_of F.reached)) (sym (path_zero C (with_row C L r) a q p)) i
  path_found r F h e a i (suc n) q p =
      let s = last_step C (with_row C L r) a q n p in
      go s.0 s.2 (h.closed s.0 (path_found r F h e a i n s.0 s.1))
    where
      go : (w : ℕ) → Step C (with_row C L r) w q → IsIn w (numbers_of F.last) ⊎ ((z : ℕ) → Step C (with_row C L r) w z → IsIn z (numbers_of F.reached)) → IsIn q (numbers_of F.reached)
      go w s (inl j) = absurd (subst (λ l. IsIn w (numbers_of l)) e j)
      go w s (inr f) = f q s

  full_from : (r : Row) (F : Found) → AtHome r F → F.last ≡ [] → (a : ℕ) → IsIn a (numbers_of F.reached) → IsSuitable C (with_row C L r) a → is_full C F ≡ true
  full_from r F h e a i s = all_pass (λ c. is_some (source_in C F c)) (numbers_below (length C.columns)) (λ c j.
      let l : c < length C.columns = (let k = (in_range 0 (length C.columns) c j).1 in omega arith) in
      let x = s.columns c l in
      let m = path_found r F h e a i x.1.0.0 x.0 x.1.0.1 in
      let y = in_map (λ (r : Reached). r.0) F.reached x.0 m in
      ap is_some (find_some (λ (r : Reached). holds_column C r.0 c) F.reached y.0 y.1 (subst (λ w. holds_column C w c ≡ true) y.2 x.1.1)).1)

  -- if the row found is full, it is the row
  full_is : (r : Row) → IsIn r T → (F : Found) → AtHome r F → is_full C F ≡ true → r ≡ found_row C S F
  full_is r hr F h full = fill_by_all cell_of r (length C.columns) (Value.Int (pos 0)) (table.rows r hr).0 (λ c l. sym (each c l))
    where
      cell_of : ℕ → Value
      cell_of c = option_map_or (λ (x : Reached). image_cell C S x.0 c x.1) (source_in C F c) (Value.Int (pos 0))

      each : (c : ℕ) → c < length C.columns → cell_of c ≡ Rattle.cs_schema.specs.Rows.cell r c
      each c l =
          let some = some_is (source_in C F c) (passes_all (λ c. is_some (source_in C F c)) (numbers_below (length C.columns)) full c (range_in 0 (length C.columns) c (omega arith) (omega (arith, l)))) in
          let m = find_in (λ (x : Reached). holds_column C x.0 c) F.reached some.0 some.1 in
          let x = h.reached some.0 m.0 in
          ap (λ o. option_map_or (λ (x : Reached). image_cell C S x.0 c x.1) o (Value.Int (pos 0))) some.1 ∙ image_cell_is C cat L S T table same keyed some.0.0 r some.0.1 c x.exists x.home x.kept m.1

  -- ---- anchor rows

  -- a row of a surviving segment is a row of the table
  kept_row : (p : ℕ) (at : At) → IsKeptRow C L S p at → (r : Row) × IsIn r T × OnRow r (p, at)
  kept_row p at k =
      let s : ℕ = at.0 in
      let xs : List Row = rows_of C T p s in
      let e = ap length (same.images p s ((k.exists, k.segment), k.kept)) in
      let a : length (image_rows (S.image p s)) ≡ length (S.image p s).pairs = simp length-map in
      let b : length (map (project C p) xs) ≡ length xs = simp length-map in
      let l : at.1 < length xs = omega (arith, k.position) in
      let r : Row = get_or xs at.1 [] in
      let here : slice_get xs at.1 ≡ Some r = slice_get-get_or xs at.1 [] l in
      let m = ((rows_of-are C T table p s).members r).0 (in_at xs at.1 r here) in
      (r, m.0, record { exists = k.exists; home = record { segment = sym m.1; here = here }; kept = k.kept })

  -- and a row of the table is in its segment of a projection, if that survives
  row_kept : (p : ℕ) (r : Row) → p < length C.projections → IsIn r T → IsTrue (with_row C L r p) → (at : At) × IsKeptRow C L S p at × OnRow r (p, at)
  row_kept p r hp hr t =
      let s : ℕ = segment_of_row C p r in
      let xs : List Row = rows_of C T p s in
      let j = has_index C cat L S T table same keyed p r hr in
      let hs : s < segments C p = segment_below C p r in
      let ls : lost C L p s ≡ false = not_so C L S (lost C L p s) t in
      let e = ap length (same.images p s ((hp, hs), ls)) in
      let a : length (image_rows (S.image p s)) ≡ length (S.image p s).pairs = simp length-map in
      let b : length (map (project C p) xs) ≡ length xs = simp length-map in
      let l : j.index < length xs = slice_get_within xs j.index r j.at in
      ((s, j.index), record { exists = hp; segment = hs; kept = ls; position = omega (arith, l) }, record { exists = hp; home = record { segment = refl; here = j.at }; kept = ls })

  abbrev row_from : Reached → Option Row
  row_from x = option_and_then (full_row C S) (found_from C L S x.0 x.1)

  full_row_is : (r : Row) → IsIn r T → (F : Found) → AtHome r F → (y : Row) → full_row C S F ≡ Some y → r ≡ y
  full_row_is r hr F h y e = go (is_full C F) refl e
    where
      go : (b : Bool) → is_full C F ≡ b → cond b (Some (found_row C S F)) None ≡ Some y → r ≡ y
      go true a f = full_is r hr F h a ∙ same_Some (found_row C S F) y f
      go false a f = absurd (none-some y f)

  abbrev pub full_rows : List Row
  full_rows = filter_map row_from (surviving_rows C L S)

  pub full_rows_in : (y : Row) → IsIn y full_rows → IsIn y T
  full_rows_in y i =
      let m = in_filter_map row_from (surviving_rows C L S) y i in
      let k = kept_row m.0.0 m.0.1 (surviving_kept C L S m.0 m.1) in
      let f = from_row k.0 k.1 m.0.0 m.0.1 k.2 in
      let e : full_row C S f.result ≡ Some y = sym (ap (option_and_then (full_row C S)) f.is) ∙ m.2 in
      subst (λ w. IsIn w T) (full_row_is k.0 k.1 f.result f.home y e) k.1

  pub in_full_rows : IsSafeByRows C L → (r : Row) → IsIn r T → IsIn r full_rows
  in_full_rows safe r hr =
      let s = safe r (table.rows r hr) in
      let a : ℕ = s.0 in
      let k = row_kept a r s.1.exists hr s.1.may_start in
      let f = from_row r hr a k.0 k.2 in
      let has : IsIn a (numbers_of f.result.reached) = map_in (λ (r : Reached). r.0) f.result.reached (a, k.0) (f.keeps (a, k.0) (inl refl)) in
      let full : is_full C f.result ≡ true = full_from r f.result f.home (found_ends C L S a k.0 s.1.exists f.result f.is) a has s.1 in
      let e : row_from (a, k.0) ≡ Some r = ap (option_and_then (full_row C S)) f.is ∙ ap (λ b. cond b (Some (found_row C S f.result)) None) full ∙ ap Some (sym (full_is r hr f.result f.home full)) in
      filter_map_in row_from (surviving_rows C L S) (a, k.0) r (kept_surviving C L S a k.0 k.1) e

  none_stray : (x : Reached) → IsIn x (surviving_rows C L S) → is_none (found_from C L S x.0 x.1) ≡ false
  none_stray x i =
      let k = kept_row x.0 x.1 (surviving_kept C L S x i) in
      ap is_none (from_row k.0 k.1 x.0 x.1 k.2).is

  -- the walk by rows is not led astray
  pub rows_walk_ends : walked_by_rows C L S ≡ Ok (without_repeats C full_rows)
  rows_walk_ends =
      ap (λ o. option_map_or (λ (x : ℕ × At). Err (x.0, x.1.0, x.1.1)) o (Ok (without_repeats C full_rows))) (none_found (λ (x : ℕ × At). is_none (found_from C L S x.0 x.1)) (surviving_rows C L S) none_stray)

  tied : (x y : Row) → IsIn x full_rows → IsIn y full_rows → key_cmp C x y ≡ Equal → x ≡ y
  tied x y i j e = tied_same (key_cmp C) (key_total C) T table.keys x y (full_rows_in x i) (full_rows_in y j) e

  -- it finds exactly the rows of the table, each once
  pub walked_in : (z : Row) → IsIn z (without_repeats C full_rows) → IsIn z T
  walked_in z i = full_rows_in z (from_repeats C full_rows z i)

  pub in_walked : IsSafeByRows C L → (z : Row) → IsIn z T → IsIn z (without_repeats C full_rows)
  in_walked safe z i = to_repeats C full_rows (λ x y a b e. tied x y a b ((Equal-is (key_cmp C x y)).0 e)) z (in_full_rows safe z i)

  pub rows_table_walked : IsSafeByRows C L → table_of C (without_repeats C full_rows) ≡ T
  rows_table_walked safe =
      let rows : List Row = without_repeats C full_rows in
      same_ascending (key_cmp C) (key_total C) (table_of C rows) T (ascending_sorted (key_cmp C) (key_total C) rows) table.keys
      (λ z h. walked_in z (in_ascending (key_cmp C) (key_total C) rows z h))
      (λ z h. ascending_in (key_cmp C) (key_total C) rows (λ x y i j e. tied x y (from_repeats C full_rows x i) (from_repeats C full_rows y j) e) z (in_walked safe z h))
