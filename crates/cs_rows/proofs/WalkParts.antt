-- Walks of consecutive ranges together are the walk of all.
use Rattle.std.proofs.Common.{◌≡◌, ℕ, zero, suc, ◌≤◌, List, [], ◌∷◌, ◌++◌, length, map, take, drop, refl, sym, ap, ◌∙◌, arith, Option, Some, None, Ok, Err, Bool}
use Rattle.std.specs.Prelude.{Result}
use Rattle.std.specs.List.{find, filter_map}
use Rattle.std.specs.Option.{option_or, option_map_or}
use Rattle.std.proofs.lemmas.List.{take_all}
use Rattle.std.proofs.lemmas.List.Folds.{find-append}
use Rattle.std.proofs.lemmas.List.Elements.{filter_map-append}
use Rattle.cs_schema.specs.CatalogData.{CatalogData}
use Rattle.cs_schema.specs.Losses.{Sites}
use Rattle.cs_schema.specs.Rows.{Row}
use Rattle.cs_safety.specs.PlanData.{PlanData}
use Rattle.cs_rows.specs.Walk.{Contents, At, Stray, is_astray, walked_row, projection_rows, walked}
use Rattle.cs_rows.specs.WalkByRows.{Reached, surviving_rows, without_repeats, walked_by_rows}
use Rattle.cs_rows.specs.Range.{walked_among, rows_between}
use Rattle.cs_rows.specs.RangeByRows.{is_stray_row, row_from, fresh_row, surviving_between, found_among, fresh_among}
use Rattle.cs_rows.proofs.RangeLemmas.{map_append}

-- ---- ranges

pub part_join : {X : Type 0} (a b c : ℕ) (xs : List X) → a ≤ b → b ≤ c → drop a (take c xs) ≡ drop a (take b xs) ++ drop b (take c xs)
part_join zero zero c xs h k = refl
part_join zero (suc b) zero xs h k = absurd (omega arith)
part_join zero (suc b) (suc c) [] h k = refl
part_join zero (suc b) (suc c) (x ∷ xs) h k = ap (λ l. x ∷ l) (part_join zero b c xs (omega arith) (omega arith))
part_join (suc a) zero c xs h k = absurd (omega arith)
part_join (suc a) (suc b) zero xs h k = absurd (omega arith)
part_join (suc a) (suc b) (suc c) [] h k = refl
part_join (suc a) (suc b) (suc c) (x ∷ xs) h k = part_join a b c xs (omega arith) (omega arith)

pub part_all : {X : Type 0} (n : ℕ) (xs : List X) → length xs ≤ n → drop 0 (take n xs) ≡ xs
part_all n xs h = take_all n xs h

-- ---- the rows found from some starts, or the first start that is led astray

module _ {X : Type 0} (stray : X → Bool) (error : X → Stray) (rows : List X → List Row) (joins : (xs ys : List X) → rows (xs ++ ys) ≡ rows xs ++ rows ys) where
  abbrev among : List X → Result (List Row) Stray
  among xs = option_map_or (λ x. Err (error x)) (find stray xs) (Ok (rows xs))

  among_ok : (xs : List X) (found : List Row) → Ok found ≡ among xs → (find stray xs ≡ None) × (found ≡ rows xs)
  among_ok xs found = go (find stray xs)
    where
      go : (o : Option X) → Ok found ≡ option_map_or (λ x. Err (error x)) o (Ok (rows xs)) → (o ≡ None) × (found ≡ rows xs)
      go None e = (refl, cc)
      go (Some x) e = absurd (cc)

  among_err : (xs : List X) (e : Stray) → Err e ≡ among xs → (x : X) × (find stray xs ≡ Some x) × (e ≡ error x)
  among_err xs e = go (find stray xs)
    where
      go : (o : Option X) → Err e ≡ option_map_or (λ x. Err (error x)) o (Ok (rows xs)) → (x : X) × (o ≡ Some x) × (e ≡ error x)
      go None f = absurd (cc)
      go (Some x) f = (x, refl, cc)

  pub among_join : (xs ys : List X) (found more : List Row) → Ok found ≡ among xs → Ok more ≡ among ys → Ok (found ++ more) ≡ among (xs ++ ys)
  among_join xs ys found more e f =
      let a = among_ok xs found e in
      let b = among_ok ys more f in
      let none : find stray (xs ++ ys) ≡ None = find-append stray xs ys ∙ (λ i. option_or (a.0 i) (b.0 i)) in
      let all : found ++ more ≡ rows (xs ++ ys) = (λ i. a.1 i ++ b.1 i) ∙ sym (joins xs ys) in
      (λ i. Ok (all i)) ∙ sym (ap (λ (o : Option X). option_map_or (λ x. Err (error x)) o (Ok (rows (xs ++ ys)))) none)

  pub among_stray : (xs ys zs : List X) (found : List Row) (e : Stray) → Ok found ≡ among xs → Err e ≡ among ys → Err e ≡ among (xs ++ (ys ++ zs))
  among_stray xs ys zs found e f g =
      let a = among_ok xs found f in
      let b = among_err ys e g in
      let first : find stray (xs ++ (ys ++ zs)) ≡ Some b.0 =
      find-append stray xs (ys ++ zs) ∙ (λ i. option_or (a.0 i) (find stray (ys ++ zs))) ∙ find-append stray ys zs ∙ (λ i. option_or (b.1 i) (find stray zs)) in
      (λ i. Err (b.2 i)) ∙ sym (ap (λ (o : Option X). option_map_or (λ x. Err (error x)) o (Ok (rows (xs ++ (ys ++ zs))))) first)

-- ---- the walk of a plan

module _ (C : CatalogData) (S : Contents) (P : PlanData) where
  abbrev at_anchor : At → Stray
  at_anchor at = (P.anchor, at.0, at.1)

  pub walked_join : (xs ys : List At) (found more : List Row) → Ok found ≡ walked_among C S P xs → Ok more ≡ walked_among C S P ys → Ok (found ++ more) ≡ walked_among C S P (xs ++ ys)
  walked_join = among_join (is_astray C S P) at_anchor (map (walked_row C S P)) (map_append (walked_row C S P))

  pub walked_stray : (xs ys zs : List At) (found : List Row) (e : Stray) → Ok found ≡ walked_among C S P xs → Err e ≡ walked_among C S P ys → Err e ≡ walked_among C S P (xs ++ (ys ++ zs))
  walked_stray = among_stray (is_astray C S P) at_anchor (map (walked_row C S P)) (map_append (walked_row C S P))

  pub rows_join : (a b c : ℕ) → a ≤ b → b ≤ c → rows_between C S P a c ≡ rows_between C S P a b ++ rows_between C S P b c
  rows_join a b c = part_join a b c (projection_rows C S P.anchor)

  pub rows_all : (n : ℕ) → length (projection_rows C S P.anchor) ≤ n → walked_among C S P (rows_between C S P 0 n) ≡ walked C S P
  rows_all n h = ap (walked_among C S P) (part_all n (projection_rows C S P.anchor) h)

-- ---- the walk by rows

module _ (C : CatalogData) (L : Sites) (S : Contents) where
  abbrev stray_of : Reached → Stray
  stray_of x = (x.0, x.1.0, x.1.1)

  pub found_join : (xs ys : List Reached) (found more : List Row) → Ok found ≡ found_among C L S xs → Ok more ≡ found_among C L S ys → Ok (found ++ more) ≡ found_among C L S (xs ++ ys)
  found_join = among_join (is_stray_row C L S) stray_of (filter_map (row_from C L S)) (filter_map-append (row_from C L S))

  pub found_stray : (xs ys zs : List Reached) (found : List Row) (e : Stray) → Ok found ≡ found_among C L S xs → Err e ≡ found_among C L S ys → Err e ≡ found_among C L S (xs ++ (ys ++ zs))
  found_stray = among_stray (is_stray_row C L S) stray_of (filter_map (row_from C L S)) (filter_map-append (row_from C L S))

  pub surviving_join : (a b c : ℕ) → a ≤ b → b ≤ c → surviving_between C L S a c ≡ surviving_between C L S a b ++ surviving_between C L S b c
  surviving_join a b c = part_join a b c (surviving_rows C L S)

  pub surviving_all : (n : ℕ) → length (surviving_rows C L S) ≤ n → surviving_between C L S 0 n ≡ surviving_rows C L S
  surviving_all n h = part_all n (surviving_rows C L S) h

  -- if no row is led astray, the walk by rows is the rows found from all surviving rows without later repeats of a key;
  -- rows that an earlier walk finds are such repeats
  pub walk_by_rows_found : (find (is_stray_row C L S) (surviving_rows C L S) ≡ None → without_repeats C (filter_map (row_from C L S) (surviving_rows C L S)) ≡ without_repeats C (filter_map (fresh_row C L S) (surviving_rows C L S))) → (found : List Row) → Ok found ≡ fresh_among C L S (surviving_rows C L S) → walked_by_rows C L S ≡ Ok (without_repeats C found)
  walk_by_rows_found repeats found e =
      let a = among_ok (is_stray_row C L S) stray_of (filter_map (fresh_row C L S)) (filter_map-append (fresh_row C L S)) (surviving_rows C L S) found e in
      ap (λ (o : Option Reached). option_map_or (λ (x : Reached). Err (x.0, x.1.0, x.1.1)) o (Ok (without_repeats C (filter_map (row_from C L S) (surviving_rows C L S))))) a.0
      ∙ (λ i. Ok (repeats a.0 i))
      ∙ (λ i. Ok (without_repeats C (sym a.1 i)))

  pub walk_by_rows_stray : (e : Stray) → Err e ≡ fresh_among C L S (surviving_rows C L S) → walked_by_rows C L S ≡ Err e
  walk_by_rows_stray e f =
      let a = among_err (is_stray_row C L S) stray_of (filter_map (fresh_row C L S)) (filter_map-append (fresh_row C L S)) (surviving_rows C L S) e f in
      ap (λ (o : Option Reached). option_map_or (λ (x : Reached). Err (x.0, x.1.0, x.1.1)) o (Ok (without_repeats C (filter_map (row_from C L S) (surviving_rows C L S))))) a.1
      ∙ (λ i. Err (sym a.2 i))
