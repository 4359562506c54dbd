-- The walk of a range of rows, row by row.
use Rattle.std.proofs.Common.{◌≡◌, ℕ, zero, suc, ◌+◌, ◌-◌, ◌<◌, ◌≤◌, List, [], ◌∷◌, ◌++◌, length, map, take, drop, refl, sym, ap, ◌∙◌, subst, arith, None, append_assoc, min, zero-add, add-zero, length-append}
use Rattle.std.specs.List.{find, flat_map, range_with_len}
use Rattle.std.specs.Option.{option_or}
use Rattle.std.proofs.lemmas.List.{get_or-take, get_or-drop, length-take, length-drop}
use Rattle.std.proofs.lemmas.List.Folds.{find-append}
use Rattle.std.proofs.lemmas.List.FromFn.{fill_by_all, get_or-map-range_with_len, length-map-range_with_len}
use Rattle.cs_schema.specs.Lists.{numbers_below}
use Rattle.cs_schema.specs.CatalogData.{CatalogData}
use Rattle.cs_safety.specs.PlanData.{PlanData}
use Rattle.cs_rows.specs.Walk.{Contents, At, is_astray, segment_rows}
use Rattle.cs_rows.specs.declared.fault.WalkFault.{WalkFault}
use Rattle.cs_rows.specs.Columns.{IsRowFault, rows_from}

pub range_plus : (a n m : ℕ) → range_with_len a (n + m) ≡ range_with_len a n ++ range_with_len (a + n) m
range_plus a zero m = λ i. range_with_len (sym (add-zero a) i) (zero-add m i)
range_plus a (suc n) m =
    let e : suc n + m ≡ suc (n + m) = omega arith in
    let b : a + 1 + n ≡ a + suc n = omega arith in
    ap (range_with_len a) e ∙ ap (λ l. a ∷ l) (range_plus (a + 1) n m ∙ ap (λ k. range_with_len (a + 1) n ++ range_with_len k m) b)

pub map_append : {X Y : Type 0} (f : X → Y) (xs ys : List X) → map f (xs ++ ys) ≡ map f xs ++ map f ys
map_append f [] ys = refl
map_append f (x ∷ xs) ys = ap (λ l. f x ∷ l) (map_append f xs ys)

pub rows_plus : (s a n m : ℕ) → rows_from s a (n + m) ≡ rows_from s a n ++ rows_from s (a + n) m
rows_plus s a n m = ap (map (λ (i : ℕ). (s, i))) (range_plus a n m) ∙ map_append (λ (i : ℕ). (s, i)) (range_with_len a n) (range_with_len (a + n) m)

-- rows in two parts
pub rows_join : (s start i end : ℕ) → start ≤ i → i ≤ end → rows_from s start (end - start) ≡ rows_from s start (i - start) ++ rows_from s i (end - i)
rows_join s start i end h k =
    let e : end - start ≡ (i - start) + (end - i) = omega arith in
    let b : start + (i - start) ≡ i = omega arith in
    ap (rows_from s start) e ∙ rows_plus s start (i - start) (end - i) ∙ ap (λ (n : ℕ). rows_from s start (i - start) ++ rows_from s n (end - i)) b

-- rows in three parts
pub rows_split : (s start i j end : ℕ) → start ≤ i → i ≤ j → j ≤ end → rows_from s start (end - start) ≡ rows_from s start (i - start) ++ (rows_from s i (j - i) ++ rows_from s j (end - j))
rows_split s start i j end h k l =
    rows_join s start i end h (omega arith) ∙ ap (λ (rows : List At). rows_from s start (i - start) ++ rows) (rows_join s i j end k l)

-- one row
pub rows_one : (s i : ℕ) → rows_from s i (i + 1 - i) ≡ (s, i) ∷ []
rows_one s i = let e : i + 1 - i ≡ 1 = omega arith in ap (rows_from s i) e

-- the rows before a row, the row, and the rows after it
pub rows_around : (s start i end : ℕ) → start ≤ i → i < end → rows_from s start (end - start) ≡ rows_from s start (i - start) ++ ((s, i) ∷ [] ++ rows_from s (i + 1) (end - (i + 1)))
rows_around s start i end h k =
    rows_split s start i (i + 1) end h (omega arith) (omega arith) ∙ ap (λ (rows : List At). rows_from s start (i - start) ++ (rows ++ rows_from s (i + 1) (end - (i + 1)))) (rows_one s i)

-- one more row
pub rows_more : (s start i : ℕ) → start ≤ i → rows_from s start (i + 1 - start) ≡ rows_from s start (i - start) ++ (s, i) ∷ []
rows_more s start i h = rows_join s start i (i + 1) h (omega arith) ∙ ap (λ (rows : List At). rows_from s start (i - start) ++ rows) (rows_one s i)

module _ (C : CatalogData) (S : Contents) (P : PlanData) where
  pub found_none : (xs ys : List At) → find (is_astray C S P) xs ≡ None → find (is_astray C S P) ys ≡ None → find (is_astray C S P) (xs ++ ys) ≡ None
  found_none xs ys e f = find-append (is_astray C S P) xs ys ∙ (λ i. option_or (e i) (f i))

  pub fault_among : (xs ys zs : List At) (e : WalkFault) → find (is_astray C S P) xs ≡ None → IsRowFault C S P ys e → IsRowFault C S P (xs ++ (ys ++ zs)) e
  fault_among xs ys zs WalkFault.Memory n h = tt
  fault_among xs ys zs (WalkFault.Astray p s row) n h =
      (h.0, find-append (is_astray C S P) xs (ys ++ zs) ∙ (λ i. option_or (n i) (find (is_astray C S P) (ys ++ zs))) ∙ find-append (is_astray C S P) ys zs ∙ (λ i. option_or (h.1 i) (find (is_astray C S P) zs)))

  pub fault_in : (xs ys zs ws : List At) (e : WalkFault) → ws ≡ xs ++ (ys ++ zs) → find (is_astray C S P) xs ≡ None → IsRowFault C S P ys e → IsRowFault C S P ws e
  fault_in xs ys zs ws e s n h = subst (λ (l : List At). IsRowFault C S P l e) (sym s) (fault_among xs ys zs e n h)

-- what is extended twice is extended by both
pub extended_twice : {X : Type 0} (Are : List At → X → Type 0) (xs ys zs : List At) (before middle after : X) → zs ≡ xs ++ ys
    → ((ats : List At) → Are ats before → Are (ats ++ xs) middle)
    → ((ats : List At) → Are ats middle → Are (ats ++ ys) after)
    → (ats : List At) → Are ats before → Are (ats ++ zs) after
extended_twice Are xs ys zs before middle after e f g ats w = subst (λ (l : List At). Are l after) (append_assoc ats xs ys ∙ ap (λ (l : List At). ats ++ l) (sym e)) (g (ats ++ xs) (f ats w))

-- ---- the part of a list from one number to another

drop_none : {X : Type 0} (a : ℕ) → drop {A = X} a [] ≡ []
drop_none zero = refl
drop_none (suc a) = refl

take_none : {X : Type 0} (a : ℕ) → take {A = X} a [] ≡ []
take_none zero = refl
take_none (suc a) = refl

pub part_append : {X : Type 0} (a b : ℕ) (xs ys : List X) → drop a (take b (xs ++ ys)) ≡ drop a (take b xs) ++ drop (a - length xs) (take (b - length xs) ys)
part_append a b [] ys =
    let e : a - 0 ≡ a = omega arith in
    let f : b - 0 ≡ b = omega arith in
    sym ((λ i. drop a (take_none b i) ++ drop (e i) (take (f i) ys)) ∙ (λ i. drop_none a i ++ drop a (take b ys)))
part_append a zero (x ∷ xs) ys =
    let f : 0 - length (x ∷ xs) ≡ 0 = omega arith in
    drop_none a ∙ sym ((λ i. drop a [] ++ drop (a - length (x ∷ xs)) (take (f i) ys)) ∙ (λ i. drop_none a i ++ drop_none (a - length (x ∷ xs)) i))
part_append zero (suc b) (x ∷ xs) ys =
    let f : suc b - length (x ∷ xs) ≡ b - length xs = omega arith in
    let e : 0 - length xs ≡ 0 - length (x ∷ xs) = omega arith in
    ap (λ l. x ∷ l) (part_append zero b xs ys) ∙ (λ i. x ∷ (take b xs ++ drop (e i) (take (sym f i) ys)))
part_append (suc a) (suc b) (x ∷ xs) ys =
    let f : suc b - length (x ∷ xs) ≡ b - length xs = omega arith in
    let e : suc a - length (x ∷ xs) ≡ a - length xs = omega arith in
    part_append a b xs ys ∙ (λ i. drop a (take b xs) ++ drop (sym e i) (take (sym f i) ys))

-- the rows of a segment from one number to another
pub part_rows : (s n a b : ℕ) → drop a (take b (rows_from s 0 n)) ≡ rows_from s (min a n) (min b n - min a n)
part_rows s n a b =
    let f : ℕ → At = λ i. (s, i) in
    let g : ℕ → At = λ k. (s, min a n + k) in
    let all : List At = rows_from s 0 n in
    let m : ℕ = min b n - min a n in
    let l0 : length all ≡ n = length-map-range_with_len f 0 n in
    let l1 : length (drop a (take b all)) ≡ m = length-drop a (take b all) ∙ ap (λ k. k - a) (length-take b all ∙ ap (min b) l0) ∙ omega arith in
    fill_by_all g (drop a (take b all)) m (0, 0) l1
    (λ k h.
    let ab : a + k < b = omega arith in
    let an : a + k < n = omega arith in
    let e : a + k ≡ min a n + k = omega arith in
    get_or-drop a (take b all) k (0, 0) ∙ get_or-take b all (a + k) (0, 0) ab ∙ get_or-map-range_with_len f 0 n (a + k) (a + k) (0, 0) an (zero-add (a + k)) ∙ ap f e)
    ∙ sym (fill_by_all g (rows_from s (min a n) m) m (0, 0) (length-map-range_with_len f (min a n) m) (λ k h. get_or-map-range_with_len f (min a n) m k (min a n + k) (0, 0) h refl))

-- ---- all segments

abbrev pub in_segment : ℕ → ℕ → At
in_segment s k = (s, k)

pub flat_map_append : {X Y : Type 0} (f : X → List Y) (xs ys : List X) → flat_map f (xs ++ ys) ≡ flat_map f xs ++ flat_map f ys
flat_map_append f [] ys = refl
flat_map_append f (x ∷ xs) ys = ap (λ l. f x ++ l) (flat_map_append f xs ys) ∙ sym (append_assoc (f x) (flat_map f xs) (flat_map f ys))

module _ (S : Contents) (p : ℕ) where
  -- the rows of the first segments
  abbrev pub done : ℕ → List At
  done s = flat_map (segment_rows S p) (numbers_below s)

  abbrev pub part : ℕ → ℕ → ℕ → List At
  part start end s = drop start (take end (done s))

  abbrev pub here : ℕ → ℕ → ℕ → ℕ → List At
  here start end first s = let n : ℕ = length (S.image p s).pairs in rows_from s (min (start - first) n) (min (end - first) n - min (start - first) n)

  done_split : (s total : ℕ) → s < total → (rest : List At) × (done total ≡ done s ++ (segment_rows S p s ++ rest))
  done_split s total h =
      let k : ℕ = total - (s + 1) in
      let e : total ≡ s + (1 + k) = omega arith in
      let z : 0 + s ≡ s = omega arith in
      let f = segment_rows S p in (
        flat_map f (range_with_len (s + 1) k),
        ap (λ n. flat_map f (range_with_len 0 n)) e
            ∙ ap (flat_map f) (range_plus 0 s (1 + k) ∙ ap (λ n. range_with_len 0 s ++ range_with_len n (1 + k)) z ∙ ap (λ l. range_with_len 0 s ++ l) (range_plus s 1 k))
            ∙ flat_map_append f (range_with_len 0 s) (s ∷ range_with_len (s + 1) k),
      )

  pub part_split : (start end first s total : ℕ) → s < total → first ≡ length (done s) → (rest : List At) × (part start end total ≡ part start end s ++ (here start end first s ++ rest))
  part_split start end first s total h e =
      let d = done_split s total h in
      let n : ℕ = length (S.image p s).pairs in
      let seg : List At = segment_rows S p s in
      let a : ℕ = start - first in
      let b : ℕ = end - first in (
        drop (a - length seg) (take (b - length seg) d.0),
        ap (λ l. drop start (take end l)) d.1
            ∙ part_append start end (done s) (seg ++ d.0)
            ∙ ap (λ m. part start end s ++ drop (start - m) (take (end - m) (seg ++ d.0))) (sym e)
            ∙ ap (λ l. part start end s ++ l) (part_append a b seg d.0 ∙ ap (λ l. l ++ drop (a - length seg) (take (b - length seg) d.0)) (part_rows s n a b)),
      )

  done_more : (s : ℕ) → done (s + 1) ≡ done s ++ segment_rows S p s
  done_more s =
      let f = segment_rows S p in
      let z : 0 + s ≡ s = omega arith in
      ap (flat_map f) (range_plus 0 s 1 ∙ ap (λ n. range_with_len 0 s ++ n ∷ []) z) ∙ flat_map_append f (range_with_len 0 s) (s ∷ []) ∙ ap (λ l. done s ++ l) (append_none (f s))
    where
      append_none : (xs : List At) → xs ++ [] ≡ xs
      append_none [] = refl
      append_none (x ∷ xs) = ap (λ l. x ∷ l) (append_none xs)

  pub part_more : (start end first s : ℕ) → first ≡ length (done s) → part start end (s + 1) ≡ part start end s ++ here start end first s
  part_more start end first s e =
      let n : ℕ = length (S.image p s).pairs in
      ap (λ l. drop start (take end l)) (done_more s)
      ∙ part_append start end (done s) (segment_rows S p s)
      ∙ ap (λ m. part start end s ++ drop (start - m) (take (end - m) (segment_rows S p s))) (sym e)
      ∙ ap (λ l. part start end s ++ l) (part_rows s n (start - first) (end - first))

  pub first_more : (first s : ℕ) → first ≡ length (done s) → first + length (S.image p s).pairs ≡ length (done (s + 1))
  first_more first s e =
      let n : ℕ = length (S.image p s).pairs in
      sym (ap length (done_more s) ∙ length-append (done s) (segment_rows S p s) ∙ (λ i. sym e i + length-map-range_with_len (in_segment s) 0 n i))

-- the fault of one segment is the fault of all
module _ (C : CatalogData) (S : Contents) (P : PlanData) where
  pub fault_of_part : (start end first s total : ℕ) (e : WalkFault) → s < total → first ≡ length (done S P.anchor s) → find (is_astray C S P) (part S P.anchor start end s) ≡ None → IsRowFault C S P (here S P.anchor start end first s) e → IsRowFault C S P (part S P.anchor start end total) e
  fault_of_part start end first s total e h k n f =
      let d = part_split S P.anchor start end first s total h k in
      fault_in C S P (part S P.anchor start end s) (here S P.anchor start end first s) d.0 (part S P.anchor start end total) e d.1 n f
