-- Whether texts are distinct, from the first one on.
use Rattle.std.proofs.Common.{◌≡◌, ℕ, ◌+◌, ◌<◌, Bool, true, false, not, ◌&&◌, ◌||◌, List, [], ◌∷◌, ◌++◌, length, get_or, take, drop, refl, sym, ap, ◌∙◌, inl, inr}
use Rattle.std.proofs.lemmas.Bool.{cases_Bool, false≢true}
use Rattle.std.proofs.lemmas.List.{take_more, map-append, take-append-drop}
use Rattle.std.proofs.lemmas.List.Folds.{list_any-append}
use Rattle.std.proofs.Math.Bool.{and-false}
use Rattle.std.specs.Borrow.{Bor}
use Rattle.std.specs.Cmp.{partial_equiv_from_equiv}
use Rattle.std.specs.Cmp.Lexicographic.{nat_list_eq_equiv}
use Rattle.cs_catalog.specs.Tree.{texts}
use Rattle.cs_schema.specs.Rules.{same_text, is_among, are_distinct}
use Rattle.cs_catalog.proofs.SortedTexts.{not_and, neither_of}

regroup : (a s d b : Bool) → (not (a || (s || false)) && (d && not b)) ≡ ((not a && d) && not (s || b))
regroup true s d b = refl
regroup false true true b = refl
regroup false true false b = refl
regroup false false true b = refl
regroup false false false b = refl

-- one text more
distinct_last : (xs : List (List ℕ)) (x : List ℕ) → are_distinct (xs ++ x ∷ []) ≡ (are_distinct xs && not (is_among x xs))
distinct_last [] x = refl
distinct_last (y ∷ ys) x =
    let flip : same_text x y ≡ same_text y x = (partial_equiv_from_equiv nat_list_eq_equiv).symm x y in
    rw (list_any-append (λ other. same_text other y) ys (x ∷ []), distinct_last ys x, flip)
    (regroup (is_among y ys) (same_text y x) (are_distinct ys) (is_among x ys))

distinct_first : (xs ys : List (List ℕ)) → are_distinct (xs ++ ys) ≡ true → are_distinct xs ≡ true
distinct_first [] ys h = refl
distinct_first (x ∷ xs) ys h =
    let parts = not_and (is_among x (xs ++ ys)) (are_distinct (xs ++ ys)) h in
    let apart = neither_of (is_among x xs) (is_among x ys) (sym (list_any-append (λ other. same_text other x) xs ys) ∙ parts.0) in
    rw (apart.0) (distinct_first xs ys parts.1)

module _ (rs : List (Bor (List ℕ))) (i : ℕ) (d : Bor (List ℕ)) (h : i < length rs) where
  next : are_distinct (texts (take (i + 1) rs)) ≡ (are_distinct (texts (take i rs)) && not (is_among (get_or rs i d).now (texts (take i rs))))
  next =
      ap (λ (l : List (Bor (List ℕ))). are_distinct (texts l)) (take_more rs i d h)
      ∙ ap are_distinct (map-append (λ (r : Bor (List ℕ)). r.now) (take i rs) (get_or rs i d ∷ []))
      ∙ distinct_last (texts (take i rs)) (get_or rs i d).now

  pub distinct_more : are_distinct (texts (take i rs)) ≡ true → is_among (get_or rs i d).now (texts (take i rs)) ≡ false → are_distinct (texts (take (i + 1) rs)) ≡ true
  distinct_more so_far apart =
      let both : (are_distinct (texts (take i rs)) && not (is_among (get_or rs i d).now (texts (take i rs)))) ≡ true = rw (so_far, apart) in
      next ∙ both

  pub repeats : is_among (get_or rs i d).now (texts (take i rs)) ≡ true → are_distinct (texts rs) ≡ false
  repeats found =
      let last : (are_distinct (texts (take i rs)) && not (is_among (get_or rs i d).now (texts (take i rs)))) ≡ false = rw found (and-false (are_distinct (texts (take i rs)))) in
      let whole : (texts (take (i + 1) rs) ++ texts (drop (i + 1) rs)) ≡ texts rs =
      sym (map-append (λ (r : Bor (List ℕ)). r.now) (take (i + 1) rs) (drop (i + 1) rs)) ∙ ap (λ (l : List (Bor (List ℕ))). texts l) (take-append-drop (i + 1) rs) in
      elim (cases_Bool (are_distinct (texts rs))) [
        | inl distinct ↦
            let first = distinct_first (texts (take (i + 1) rs)) (texts (drop (i + 1) rs)) (ap are_distinct whole ∙ distinct) in
            absurd (false≢true (sym (next ∙ last) ∙ first))
        | inr repeated ↦ repeated
      ]
