-- Records that are headers, and those that are not.
use Rattle.std.proofs.Common.{◌≡◌, ◌≢◌, ℕ, zero, suc, ◌<◌, ◌≤◌, List, [], ◌∷◌, ◌++◌, length, get_or, arith, ap, sym, ◌∙◌, refl, subst, true, inl, inr, below_more}
use Rattle.std.specs.Prelude.{slice_index}
use Rattle.std.specs.List.{list_any}
use Rattle.std.proofs.Math.Dec.{eqb}
use Rattle.std.proofs.lemmas.Bool.{cases_Bool, eqb-true, false≢true, ne_eqb}
use Rattle.std.proofs.lemmas.List.{get_or_append_left, get_or_push, length_push, get_or_default}
use Rattle.std.proofs.lemmas.Map.Keys.{IsDistinct-from_apart}
use Rattle.std.proofs.lemmas.Map.Steps.{length-le_from_distinct_below}
use Rattle.cs_csv.specs.Columns.{NamesDiffer, column}
use Rattle.cs_schema.specs.CatalogData.{ColumnData}
use Rattle.cs_csv.specs.Fields.{Record, field}
use Rattle.cs_csv.specs.FaultOf.{IsOutside}
use Rattle.cs_csv.specs.Headers.{AreNamesBefore, IsHeader, IsHeaderFault}
use Rattle.cs_csv.specs.Places.{ArePlaces}
use Rattle.cs_csv.specs.declared.fault.CsvFault.{CsvFault}
use Rattle.cs_csv.specs.declared.fault.CsvFault.TheVariants as fault

-- a list of what is known to be there for each number below n
choose : (P : ℕ → ℕ → Type 0) (n : ℕ) → ((i : ℕ) → i < n → (c : ℕ) × P i c) → (l : List ℕ) × (length l ≡ n) × ((i : ℕ) → i < n → P i (get_or l i 0))
choose P zero f = ([], refl, λ i h. absurd (omega arith))
choose P (suc n) f =
    let rest = choose P n (λ i h. f i (omega arith)) in
    let here = f n (omega arith) in (
      rest.0 ++ here.0 ∷ [],
      omega (arith, length_push rest.0 here.0, rest.1),
      λ i h. below_more (λ k. P k (get_or (rest.0 ++ here.0 ∷ []) k 0)) n
          (λ k b. subst (P k) (sym (get_or_append_left rest.0 (here.0 ∷ []) 0 k (omega (arith, rest.1)))) (rest.2 k b))
          (subst (P n) (sym (get_or_push rest.0 here.0 0 n rest.1)) here.1) i (omega arith),
    )

-- where a number of a list stands
seen : (q : ℕ) (l : List ℕ) → list_any (eqb q) l ≡ true → (i : ℕ) × (i < length l) × (get_or l i 0 ≡ q)
seen q [] e = absurd (false≢true e)
seen q (x ∷ xs) e = elim (cases_Bool (eqb q x)) [
  | inl t ↦ (zero, omega arith, sym (eqb-true q x t))
  | inr f ↦ let r = seen q xs (rw f at e) in (suc r.0, omega (arith, r.1), r.2)
]

-- different numbers below n are at most n
few : (l : List ℕ) (n : ℕ) → ((i : ℕ) → i < length l → get_or l i 0 < n) → ((i j : ℕ) → i < j → j < length l → get_or l i 0 ≢ get_or l j 0) → length l ≤ n
few l n below apart =
    length-le_from_distinct_below l n
    (IsDistinct-from_apart eqb l (λ i j d h k.
    let hi : i < length l = omega arith in
    rw (get_or_default l i d 0 hi, get_or_default l j d 0 k) (ne_eqb (get_or l i 0) (get_or l j 0) (apart i j h k))))
    (λ q e. let at = seen q l e in subst (λ (m : ℕ). m < n) at.2 (below at.0 at.1))

module _ (columns : List ColumnData) (header : Record) (places : List ℕ) (differ : NamesDiffer columns) (names : AreNamesBefore columns header (length header)) (p : ArePlaces columns header places) where
  -- no two columns have one place
  places-few : length columns ≤ length header
  places-few =
      let at-most = few places (length header)
      (λ i h. p.within i (omega (arith, p.count)))
      (λ i j h k e.
      let li : i < length columns = omega (arith, p.count) in
      let lj : j < length columns = omega (arith, p.count) in
      let same : i ≡ j = differ i j li lj (sym (p.named i li) ∙ ap (field header) e ∙ p.named j lj) in
      omega arith) in
      omega (arith, p.count, at-most)

  -- no two fields have one column
  names-few : length header ≤ length columns
  names-few =
      let numbers = choose (λ i c. (c < length columns) × ((column columns c).name ≡ field header i)) (length header) (λ i h. let x = names.named i h in (x.0, (x.1, x.2))) in
      let at-most = few numbers.0 (length columns)
      (λ i h. (numbers.2 i (omega (arith, numbers.1))).0)
      (λ i j h k e.
      let li : i < length header = omega (arith, numbers.1) in
      let lj : j < length header = omega (arith, numbers.1) in
      names.once j i lj h (sym (numbers.2 i li).1 ∙ ap (λ (c : ℕ). (column columns c).name) e ∙ (numbers.2 j lj).1)) in
      omega (arith, numbers.1, at-most)

  pub is-header : IsHeader columns header
  is-header =
      let count : length header ≡ length columns = omega (arith, places-few, names-few) in
      record {
        differ = differ;
        count = count;
        once = λ i j li lj e.
            let after : i < j → ⊥ = λ l. names.once j i (omega arith) l e in
            let before : j < i → ⊥ = λ l. names.once i j (omega arith) l (sym e) in
            omega arith;
        each = λ c h. (slice_index places c, omega (arith, p.within c h), p.named c h);
        named = λ i h. names.named i (omega arith);
      }

-- what is said of a header is no fault of it
pub no-fault : (columns : List ColumnData) (header : Record) (f : CsvFault) → IsHeader columns header → IsHeaderFault columns header f → IsOutside f
no-fault columns header fault.Memory h e = tt
no-fault columns header fault.Device h e = tt
no-fault columns header (fault.Missing c) h e =
    let i = h.each c e.known in
    let there : i.0 < length header = omega (arith, h.count, i.1) in
    absurd (e.none i.0 there i.2)
no-fault columns header (fault.Unknown name) h e =
    let there : e.place < length columns = omega (arith, h.count, e.there) in
    let c = h.named e.place there in
    absurd (e.none c.0 c.1 c.2)
no-fault columns header (fault.Twice c) h e =
    let there : e.place < length columns = omega (arith, h.count, e.there) in
    let i = e.again in
    let here : i.0 < length columns = omega (arith, i.1) in
    let same : i.0 ≡ e.place = h.once i.0 e.place here there i.2 in
    absurd (omega (arith, i.1))
no-fault columns header (fault.Unclosed n) h e = absurd e
no-fault columns header fault.TooMany h e = absurd e
no-fault columns header (fault.Width n cells) h e = absurd e
no-fault columns header (fault.NotInt n c cell) h e = absurd e
no-fault columns header (fault.NotText n c) h e = absurd e
no-fault columns header (fault.TooLong n c bytes) h e = absurd e
