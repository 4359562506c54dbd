-- A walk, composed of the walks of its pieces.
use Rattle.std.proofs.Common.{◌≡◌, ℕ, zero, suc, ◌+◌, ◌*◌, ◌≤◌, List, [], ◌∷◌, ◌++◌, take, drop, length, refl, sym, ap, ◌∙◌, subst, Option, Some, None, Result, Ok, Err, arith}
use Rattle.std.specs.List.{find, flat_map, slice_get}
use Rattle.std.specs.Option.{option_map, option_map_or}
use Rattle.std.proofs.Math.Seq.{take-add}
use Rattle.std.proofs.lemmas.List.{drop-take, take_all}
use Rattle.std.proofs.lemmas.Option.{none-some, same_Some}
use Rattle.cs_board.specs.Pieces.{AllSound, AnswersInOrder}
use Rattle.cs_schema.specs.Rows.{Row}
use Rattle.cs_store.specs.declared.fault.Fault.{Fault}
use Rattle.cs_rows.specs.Walk.{Stray}
use Rattle.cs_rebuild.specs.Rounds.{IsFirstFault}
use Rattle.cs_rebuild.specs.Walking.{piece_of}
use Rattle.cs_rebuild.proofs.Cuts.{first_piece, no_piece}

abbrev pub fault_of : Stray → Fault
fault_of at = Fault.Astray at.0 at.1 at.2

none_dropped : {X : Type 0} (n : ℕ) → ◌≡◌ {A = List X} (drop n []) []
none_dropped zero = refl
none_dropped (suc n) = refl

drop_more : {X : Type 0} (c a : ℕ) (xs : List X) → drop (a + c) xs ≡ drop c (drop a xs)
drop_more c zero xs = ap (λ n. drop n xs) (let e : 0 + c ≡ c = omega arith in e)
drop_more c (suc a) [] = none_dropped (suc a + c) ∙ sym (none_dropped c)
drop_more c (suc a) (x ∷ xs) = ap (λ n. drop n (x ∷ xs)) (let e : suc a + c ≡ suc (a + c) = omega arith in e) ∙ drop_more c a xs

-- the rows to walk: p tests whether a row is led astray, e gives where, and f the rows to which the others lead
module _ {X : Type 0} (p : X → Rattle.std.proofs.Common.Bool) (e : X → Stray) (f : List X → List Row) where
  abbrev pub among : List X → Result (List Row) Stray
  among xs = option_map_or (λ x. Err (e x)) (find p xs) (Ok (f xs))

  abbrev or_else : List Row → Result (List Row) Stray → List Row
  or_else d (Ok rows) = rows
  or_else d (Err at) = d

  is_ok : Result (List Row) Stray → Type 0
  is_ok (Ok rows) = Unit {0}
  is_ok (Err at) = ⊥

  pub none_astray : (ys : List X) (w : List Row) → Ok w ≡ among ys → (find p ys ≡ None) × (w ≡ f ys)
  unfolding is_ok
  none_astray ys w h = go (find p ys) refl h
    where
      go : (o : Option X) → find p ys ≡ o → ◌≡◌ {A = Result (List Row) Stray} (Ok w) (option_map_or (λ x. Err (e x)) o (Ok (f ys))) → (find p ys ≡ None) × (w ≡ f ys)
      go None k m = (k, ap (or_else w) m)
      go (Some x) k m = absurd (subst is_ok m tt)

  pub one_astray : (ys : List X) (at : Stray) → among ys ≡ Err at → Some (fault_of at) ≡ option_map (λ x. fault_of (e x)) (find p ys)
  unfolding is_ok
  one_astray ys at h = go (find p ys) refl h
    where
      err : Result (List Row) Stray → Stray
      err (Ok rows) = at
      err (Err x) = x

      go : (o : Option X) → find p ys ≡ o → ◌≡◌ {A = Result (List Row) Stray} (option_map_or (λ x. Err (e x)) o (Ok (f ys))) (Err at) → Some (fault_of at) ≡ option_map (λ x. fault_of (e x)) (find p ys)
      go None k m = absurd (subst is_ok m tt)
      go (Some x) k m = sym (ap (option_map (λ y. fault_of (e y))) k ∙ ap (λ r. Some (fault_of (err r))) m)

  module _ (xs : List X) (cut : ℕ) where
    -- the i-th piece, as the rows numbered from..to
    pub piece_is : (i : ℕ) → drop (i * cut) (take (i * cut + cut) xs) ≡ piece_of cut xs i
    piece_is i = drop-take (i * cut) cut xs

    none_in : (o : Option X) → None ≡ option_map (λ x. fault_of (e x)) o → o ≡ None
    none_in None h = refl
    none_in (Some x) h = absurd (none-some (fault_of (e x)) h)

    stray_in : (o : Option X) (f : Fault) → Some f ≡ option_map (λ x. fault_of (e x)) o → (x : X) × (o ≡ Some x) × (f ≡ fault_of (e x))
    stray_in None f h = absurd (none-some f (sym h))
    stray_in (Some x) f h = (x, refl, same_Some f (fault_of (e x)) h)

    abbrev pub FaultAt : ℕ → Option Fault → Type 0
    FaultAt i fault = fault ≡ option_map (λ x. fault_of (e x)) (find p (piece_of cut xs i))

    -- the first row that is led astray is in the first piece that has one
    pub first_astray : (count : ℕ) (fault : Fault) → IsFirstFault FaultAt count fault → (at : Stray) × (among xs ≡ Err at) × (fault ≡ fault_of at)
    first_astray count fault h =
        let s = stray_in (find p (piece_of cut xs h.at)) fault h.here in
        let first = first_piece p cut xs h.at s.0 s.1 (λ k l. none_in (find p (piece_of cut xs k)) (h.before k l)) in
        (e s.0, ap (λ o. option_map_or (λ x. Err (e x)) o (Ok (f xs))) first, s.2)

    module _ (none : f [] ≡ []) (join : (ys zs : List X) → f (ys ++ zs) ≡ f ys ++ f zs) {O : Type 0} (rows_of : O → List Row) where
      rows_from : (outs : List O) (j : ℕ) → ((k : ℕ) (out : O) → slice_get outs k ≡ Some out → rows_of out ≡ f (piece_of cut xs (j + k))) → flat_map rows_of outs ≡ f (take (length outs * cut) (drop (j * cut) xs))
      rows_from [] j h = sym (ap (λ n. f (take n (drop (j * cut) xs))) (let z : 0 * cut ≡ 0 = omega arith in z) ∙ none)
      rows_from (out ∷ outs) j h =
          let ys : List X = drop (j * cut) xs in
          let first : rows_of out ≡ f (take cut ys) = h 0 out refl ∙ ap (λ n. f (piece_of cut xs n)) (let z : j + 0 ≡ j = omega arith in z) in
          let rest = rows_from outs (suc j) (λ k o at. h (suc k) o at ∙ ap (λ n. f (piece_of cut xs n)) (let z : j + suc k ≡ suc j + k = omega arith in z)) in
          let next : drop (suc j * cut) xs ≡ drop cut ys = ap (λ n. drop n xs) (let z : suc j * cut ≡ j * cut + cut = grind arith in z) ∙ drop_more cut (j * cut) xs in
          let count : suc (length outs) * cut ≡ cut + length outs * cut = grind arith in
          ap (λ l. l ++ flat_map rows_of outs) first
          ∙ ap (λ l. f (take cut ys) ++ l) (rest ∙ ap (λ l. f (take (length outs * cut) l)) next)
          ∙ sym (ap (λ n. f (take n ys)) count ∙ ap f (take-add cut (length outs * cut) ys) ∙ join (take cut ys) (take (length outs * cut) (drop cut ys)))

      -- if no row is led astray, the rows are those of all pieces
      pub all_walked : (count : ℕ) → length xs ≤ count * cut → AllSound FaultAt count → (outs : List O) → length outs ≡ count → AnswersInOrder (λ i (out : O). rows_of out ≡ f (piece_of cut xs i)) outs → among xs ≡ Ok (flat_map rows_of outs)
      all_walked count cover sound outs long each =
          let clear = no_piece p cut xs count cover (λ k l. none_in (find p (piece_of cut xs k)) (sound k l)) in
          let rows = rows_from outs 0 (λ k out at. each k out at ∙ ap (λ n. f (piece_of cut xs n)) (let z : k ≡ 0 + k = omega arith in z)) in
          let whole : f (take (length outs * cut) xs) ≡ f xs = ap f (take_all (length outs * cut) xs (subst (λ n. length xs ≤ n * cut) (sym long) cover)) in
          ap (λ o. option_map_or (λ x. Err (e x)) o (Ok (f xs))) clear ∙ ap (λ r. Ok r) (sym (rows ∙ ap (λ n. f (take (length outs * cut) (drop n xs))) (let z : 0 * cut ≡ 0 = omega arith in z) ∙ whole))
