-- A part of a body under runs: the bytes of the runs that begin at some positions.
use Rattle.std.proofs.Common.{◌≡◌, ℕ, zero, suc, ◌+◌, ◌-◌, ◌<◌, ◌≤◌, Bool, true, false, not, if◌then◌else◌, List, [], ◌∷◌, ◌++◌, length, take, drop, Option, Some, None, refl, sym, ap, ◌∙◌, append_assoc, arith}
use Rattle.std.specs.Prelude.{slice_get}
use Rattle.std.proofs.Math.Seq.{take-add}
use Rattle.std.proofs.lemmas.List.{drop-drop}
use Rattle.cs_codec.specs.Cells.{number}
use Rattle.cs_codec.specs.Texts.{differs, kept, runs_text_from, runs_text}

-- the value of the last cell, or `before` if there is none
abbrev pub value_after : {C : Type 0} → Option C → List C → Option C
value_after before [] = before
value_after before (x ∷ xs) = value_after (Some x) xs

value_after-append : {C : Type 0} (before : Option C) (xs ys : List C) → value_after before (xs ++ ys) ≡ value_after (value_after before xs) ys
value_after-append before [] ys = refl
value_after-append before (x ∷ xs) ys = value_after-append (Some x) xs ys

module _ {C : Type 0} (bytes : C → List ℕ) (eq : C → C → Bool) where
  -- the bytes of a position: those of its run, if its value differs from the one before it
  abbrev pub position_text : Option C → ℕ → C → List C → List ℕ
  position_text before p x xs = if differs eq before x then bytes x ++ number p ++ number (suc (kept eq x xs)) else []

  -- the bytes of the first n positions, if the first of them is p
  abbrev pub front_text : Option C → ℕ → ℕ → List C → List ℕ
  front_text before p zero xs = []
  front_text before p (suc n) [] = []
  front_text before p (suc n) (x ∷ xs) = position_text before p x xs ++ front_text (Some x) (suc p) n xs

  -- the bytes of the positions `start..stop` of a list, counted from 0
  abbrev pub part_text : List C → ℕ → ℕ → List ℕ
  part_text xs start stop = front_text (value_after None (take start xs)) (suc start) (stop - start) (drop start xs)

  -- ---- parts follow one another

  pub front_none : (before : Option C) (p n : ℕ) → front_text before p n [] ≡ []
  front_none before p zero = refl
  front_none before p (suc n) = refl

  pub front_split : (before : Option C) (p m n : ℕ) (xs : List C) → front_text before p (m + n) xs ≡ front_text before p m xs ++ front_text (value_after before (take m xs)) (p + m) n (drop m xs)
  front_split before p zero n xs =
      let none : 0 + n ≡ n = omega arith in
      let same : p ≡ p + 0 = omega arith in
      ap (λ (k : ℕ). front_text before p k xs) none ∙ ap (λ (q : ℕ). front_text before q n xs) same
  front_split before p (suc m) n [] = front_none before p (suc m + n) ∙ sym (front_none before (p + suc m) n)
  front_split before p (suc m) n (x ∷ xs) =
      let more : suc m + n ≡ suc (m + n) = omega arith in
      let further : suc p + m ≡ p + suc m = omega arith in
      ap (λ (k : ℕ). front_text before p k (x ∷ xs)) more
      ∙ ap (λ (w : List ℕ). position_text before p x xs ++ w) (front_split (Some x) (suc p) m n xs ∙ ap (λ (q : ℕ). front_text (Some x) (suc p) m xs ++ front_text (value_after (Some x) (take m xs)) q n (drop m xs)) further)
      ∙ sym (append_assoc (position_text before p x xs) (front_text (Some x) (suc p) m xs) (front_text (value_after before (take (suc m) (x ∷ xs))) (p + suc m) n (drop (suc m) (x ∷ xs))))

  pub front_whole : (before : Option C) (p n : ℕ) (xs : List C) → length xs ≤ n → front_text before p n xs ≡ runs_text_from bytes eq before p xs
  front_whole before p n [] l = front_none before p n
  front_whole before p zero (x ∷ xs) l = absurd (omega (arith, l))
  front_whole before p (suc n) (x ∷ xs) l = ap (λ (w : List ℕ). position_text before p x xs ++ w) (front_whole (Some x) (suc p) n xs (omega (arith, l)))

  -- the bytes of all positions are the body of the list
  pub whole_part : (xs : List C) → part_text xs 0 (length xs) ≡ runs_text bytes eq xs
  whole_part xs = front_whole None 1 (length xs - 0) xs (omega arith)

  -- positions that continue a run have no bytes
  pub front_within : (x : C) (p n : ℕ) (xs : List C) → n ≤ kept eq x xs → front_text (Some x) p n xs ≡ []
  front_within x p zero xs l = refl
  front_within x p (suc n) [] l = refl
  front_within x p (suc n) (y ∷ xs) l = go (eq x y) refl (front_within y (suc p) n xs)
    where
      go : (b : Bool) → eq x y ≡ b → (n ≤ kept eq y xs → front_text (Some y) (suc p) n xs ≡ []) → front_text (Some x) p (suc n) (y ∷ xs) ≡ []
      go true e further =
          let more : suc n ≤ suc (kept eq y xs) = rw e at l in
          ap (λ (b : Bool). (if not b then bytes y ++ number p ++ number (suc (kept eq y xs)) else []) ++ front_text (Some y) (suc p) n xs) e ∙ further (omega (arith, more))
      go false e further = let none : suc n ≤ 0 = rw e at l in absurd (omega (arith, none))

  pub parts_follow : (xs : List C) (a b c : ℕ) → a ≤ b → b ≤ c → part_text xs a b ++ part_text xs b c ≡ part_text xs a c
  parts_follow xs a b c l m =
      let front = value_after None (take a xs) in
      let place : suc a + (b - a) ≡ suc b = omega (arith, l) in
      let whole : (b - a) + (c - b) ≡ c - a = omega (arith, l, m) in
      let ends : a + (b - a) ≡ b = omega (arith, l) in
      let before : value_after front (take (b - a) (drop a xs)) ≡ value_after None (take b xs) =
      sym (value_after-append None (take a xs) (take (b - a) (drop a xs))) ∙ ap (value_after None) (sym (take-add a (b - a) xs)) ∙ ap (λ (k : ℕ). value_after None (take k xs)) ends in
      let rest : drop (b - a) (drop a xs) ≡ drop b xs = drop-drop (b - a) a xs ∙ ap (λ (k : ℕ). drop k xs) ends in
      sym (
      ap (λ (k : ℕ). front_text front (suc a) k (drop a xs)) (sym whole)
      ∙ front_split front (suc a) (b - a) (c - b) (drop a xs)
      ∙ ap (λ (q : Option C). part_text xs a b ++ front_text q (suc a + (b - a)) (c - b) (drop (b - a) (drop a xs))) before
      ∙ ap (λ (q : ℕ). part_text xs a b ++ front_text (value_after None (take b xs)) q (c - b) (drop (b - a) (drop a xs))) place
      ∙ ap (λ (q : List C). part_text xs a b ++ front_text (value_after None (take b xs)) (suc b) (c - b) q) rest
      )

  -- `start` is the first of the positions `from..to` at which a run begins, or `to` if none does
  pub record IsNextStart (xs : List C) (from to start : ℕ) : Type 0 where
    pub within : (from ≤ start) × (start ≤ to)
    pub opens : start < to → (x : C) → slice_get xs start ≡ Some x → differs eq (value_after None (take start xs)) x ≡ true
    pub none : (m : ℕ) → from ≤ m → m ≤ start → part_text xs m start ≡ []

  -- an empty range of positions has no bytes
  pub part_none : (xs : List C) (at : ℕ) → part_text xs at at ≡ []
  part_none xs at = let none : at - at ≡ 0 = omega arith in ap (λ (k : ℕ). front_text (value_after None (take at xs)) (suc at) k (drop at xs)) none
