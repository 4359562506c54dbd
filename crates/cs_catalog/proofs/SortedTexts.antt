-- Texts that are sorted and without repeats stand once each.
use Rattle.std.proofs.Common.{◌≡◌, ℕ, Bool, true, false, not, ◌&&◌, ◌||◌, List, [], ◌∷◌, refl, sym, ap, ◌∙◌, nat_cmp, inl, inr, Ordering}
use Rattle.std.proofs.lemmas.Bool.{cases_Bool, false≢true}
use Rattle.std.proofs.lemmas.List.Kept.{IsStrictlySortedBy-dedup}
use Rattle.std.proofs.lemmas.List.Sorted.{IsPermutation-sym}
use Rattle.std.proofs.lemmas.Map.Keys.{IsDistinct-IsPermutation, IsDistinct-from_sorted}
use Rattle.std.proofs.lemmas.Cmp.{nat_list_cmp_total}
use Rattle.std.specs.List.{list_any, dedup, dedup_from, IsDistinct, AllByRecursion}
use Rattle.std.specs.List.Sorted.{IsPermutation, IsSorted, IsStrictlySortedBy}
use Rattle.std.specs.Ordering.{eq_by_cmp}
use Rattle.std.specs.Cmp.{on_total, partial_equiv_from_equiv}
use Rattle.std.specs.Cmp.Lexicographic.{slice_cmp, nat_list_eq_equiv, texts_ties}
use Rattle.std.specs.Borrow.{Bor}
use Rattle.cs_catalog.specs.Repeats.{neighbors_differ}
use Rattle.cs_catalog.specs.Tree.{texts}
use Rattle.cs_schema.specs.Rules.{same_text, is_among, are_distinct}
use Rattle.cs_catalog.proofs.TextLists.{is_among-texts}

abbrev pub Text : Type 0
Text = Bor (List ℕ)

abbrev pub same : Text → Text → Bool
same r s = same_text r.now s.now

flips : (x y : Text) → same x y ≡ same y x
flips x y = (partial_equiv_from_equiv nat_list_eq_equiv).symm x.now y.now

pub not_and : (a b : Bool) → (not a && b) ≡ true → (a ≡ false) × (b ≡ true)
not_and true b h = absurd (false≢true h)
not_and false b h = (refl, h)

pub neither_of : (a b : Bool) → (a || b) ≡ false → (a ≡ false) × (b ≡ false)
neither_of true b h = absurd (false≢true (sym h))
neither_of false b h = (refl, h)

apart : (x : Text) (rs : List Text) → list_any (λ r. same_text r.now x.now) rs ≡ false → AllByRecursion (λ r. same x r ≡ false) rs
apart x [] h = tt
apart x (r ∷ rs) h =
    let parts = neither_of (same r x) (list_any (λ s. same_text s.now x.now) rs) h in
    (flips x r ∙ parts.0, apart x rs parts.1)

none : (x : Text) (rs : List Text) → AllByRecursion (λ r. same x r ≡ false) rs → list_any (λ r. same_text r.now x.now) rs ≡ false
none x [] h = refl
none x (r ∷ rs) h = rw (flips r x, h.0) (none x rs h.1)

distinct_from : (rs : List Text) → are_distinct (texts rs) ≡ true → IsDistinct same rs
unfolding IsDistinct
distinct_from [] h = tt
distinct_from (r ∷ rs) h =
    let parts = not_and (is_among r.now (texts rs)) (are_distinct (texts rs)) h in
    (apart r rs (sym (is_among-texts r.now rs) ∙ parts.0), distinct_from rs parts.1)

distinct_to : (rs : List Text) → IsDistinct same rs → are_distinct (texts rs) ≡ true
unfolding IsDistinct
distinct_to [] h = refl
distinct_to (r ∷ rs) h = rw (is_among-texts r.now rs, none r rs h.0) (distinct_to rs h.1)

-- what `dedup` leaves of a list whose neighbors differ is the list
kept : (k : Text) (xs : List Text) → neighbors_differ (texts (k ∷ xs)) ≡ true → dedup_from same k xs ≡ k ∷ xs
kept k [] h = refl
kept k (x ∷ xs) h =
    let parts = not_and (same k x) (neighbors_differ (texts (x ∷ xs))) h in
    rw (flips x k, parts.0) (ap (λ l. k ∷ l) (kept x xs parts.1))

kept_list : (xs : List Text) → neighbors_differ (texts xs) ≡ true → dedup same xs ≡ xs
kept_list [] h = refl
kept_list (x ∷ xs) h = kept x xs h

differ_from : (xs : List Text) → IsDistinct same xs → neighbors_differ (texts xs) ≡ true
unfolding IsDistinct
differ_from [] h = refl
differ_from (x ∷ []) h = refl
differ_from (x ∷ y ∷ ys) h = rw (h.0.0) (differ_from (y ∷ ys) h.1)

abbrev order : Text → Text → Ordering
order r s = slice_cmp nat_cmp r.now s.now

ties : (r s : Text) → same r s ≡ eq_by_cmp order r s
ties r s = texts_ties r.now s.now

none_tie : (x : Text) (rs : List Text) → AllByRecursion (λ r. eq_by_cmp order x r ≡ false) rs → AllByRecursion (λ r. same x r ≡ false) rs
none_tie x [] h = tt
none_tie x (r ∷ rs) h = (ties x r ∙ h.0, none_tie x rs h.1)

distinct_ties : (xs : List Text) → IsDistinct (eq_by_cmp order) xs → IsDistinct same xs
unfolding IsDistinct
distinct_ties [] h = tt
distinct_ties (x ∷ xs) h = (none_tie x xs h.0, distinct_ties xs h.1)

pub sorted_differ : (xs ys : List Text) → IsPermutation xs ys → IsSorted order ys → neighbors_differ (texts ys) ≡ are_distinct (texts xs)
sorted_differ xs ys shuffled sorted =
    elim (cases_Bool (neighbors_differ (texts ys))) [
      | inl differ ↦
          let strict : IsStrictlySortedBy order (dedup same ys) = IsStrictlySortedBy-dedup (on_total (λ r. r.now) nat_list_cmp_total) ties ys sorted in
          let apart_all : IsDistinct same ys = distinct_ties ys (IsDistinct-from_sorted order ys (rw (kept_list ys differ) at strict)) in
          differ ∙ sym (distinct_to xs (IsDistinct-IsPermutation same flips ys xs (IsPermutation-sym xs ys shuffled) apart_all))
      | inr equal ↦
          elim (cases_Bool (are_distinct (texts xs))) [
            | inl distinct ↦ absurd (false≢true (sym equal ∙ differ_from ys (IsDistinct-IsPermutation same flips xs ys shuffled (distinct_from xs distinct))))
            | inr repeated ↦ equal ∙ sym repeated
          ]
    ]
