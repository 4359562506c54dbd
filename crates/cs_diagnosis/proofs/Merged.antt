-- The differences of two tables, one step further.
use Rattle.std.proofs.Common.{◌≡◌, ◌≢◌, ℕ, ◌+◌, ◌<◌, ◌≤◌, List, [], ◌∷◌, ◌++◌, length, length-append, refl, sym, ap, subst, ◌∙◌, arith, inl, inr, Some, get_or}
use Rattle.std.proofs.lemmas.Bool.{cases_lt}
use Rattle.std.proofs.lemmas.Option.{same_Some, slice_get_within, slice_get-get_or}
use Rattle.std.specs.List.{slice_get}
use Rattle.std.specs.List.Sorted.{IsStrictlySortedBy}
use Rattle.std.specs.declared.cmp.Ordering.TheVariants.{Less}
use Rattle.cs_schema.specs.declared.cells.Value.{Value}
use Rattle.cs_schema.specs.Lists.{IsIn}
use Rattle.cs_schema.specs.Rows.{Row, cell}
use Rattle.cs_schema.specs.Values.{value_cmp}
use Rattle.cs_schema.specs.ValueOrder.{value_cmp_total}
use Rattle.cs_schema.proofs.Ascending.{not_self}
use Rattle.cs_schema.proofs.Lists.{in_at, at_in, append_left, append_right, in_append}
use Rattle.cs_schema.proofs.Surviving.{append_sorted}
use Rattle.cs_design.proofs.Items.{kept_or_last}
use Rattle.cs_diagnosis.specs.declared.merging.Dispute.{Dispute}
use Rattle.cs_diagnosis.specs.Disputes.{LacksKey, IsDispute, AreDisputes}
use Rattle.cs_diagnosis.proofs.MergedSoFar.{alone_first, alone_second, of_both, Rising, IsBefore, IsMerged}

-- a key is not less than itself
unequal : {A : Type 0} (v w : Value) → value_cmp v w ≡ Less → v ≡ w → A
unequal v w l e = not_self value_cmp value_cmp_total w (subst (λ x. value_cmp x w ≡ Less) e l)

module _ (key : ℕ) (T U : List Row) (rt : Rising key T) (ru : Rising key U) where
  -- a key less than that of the row at an index is less than those after it
  pub before_all : (W : List Row) → Rising key W → (j : ℕ) (v : Value) → ((q : Row) → slice_get W j ≡ Some q → value_cmp v (cell q key) ≡ Less) → IsBefore key W j v
  before_all W rising j v f k q h at = elim (cases_lt j k) [
    | inl l ↦
        (let here = get_or W j q in
        let there = slice_get-get_or W j q (let b = slice_get_within W k q at in omega (arith, b, l)) in
        value_cmp_total.trans v (cell here key) (cell q key) (f here there) (rising j k here q l there at))
    | inr l ↦ (let same : k ≡ j = omega (arith, h, l) in f q (subst (λ n. slice_get W n ≡ Some q) same at))
  ]

  -- a row is less than the rows after it
  pub after : (W : List Row) → Rising key W → (i : ℕ) (r : Row) → slice_get W i ≡ Some r → IsBefore key W (i + 1) (cell r key)
  after W rising i r at k q h there = rising i k r q (omega (arith, h)) at there

  -- one more key and dispute
  more_each : (keys : List Value) (all : List Dispute) (v : Value) (d : Dispute) → length keys ≡ length all → IsDispute key T U v d
      → ((n : ℕ) (w : Value) (e : Dispute) → slice_get keys n ≡ Some w → slice_get all n ≡ Some e → IsDispute key T U w e)
      → (n : ℕ) (w : Value) (e : Dispute) → slice_get (keys ++ v ∷ []) n ≡ Some w → slice_get (all ++ d ∷ []) n ≡ Some e → IsDispute key T U w e
  more_each keys all v d size is f n w e a b = elim (kept_or_last keys v n w a) [
    | inl old ↦ elim (kept_or_last all d n e b) [
      | inl kept ↦ f n w e old kept
      | inr last ↦ absurd (let low = slice_get_within keys n w old in let at = last.0 in omega (arith, low, size, at))
    ]
    | inr new ↦ elim (kept_or_last all d n e b) [
      | inl kept ↦ absurd (let low = slice_get_within all n e kept in let at = new.0 in omega (arith, low, size, at))
      | inr last ↦ subst (λ x. IsDispute key T U x e) (sym new.1) (subst (IsDispute key T U v) (sym last.1) is)
    ]
  ]

  more_sorted : (keys : List Value) (v : Value) → IsStrictlySortedBy value_cmp keys → ((w : Value) → IsIn w keys → value_cmp w v ≡ Less) → IsStrictlySortedBy value_cmp (keys ++ v ∷ [])
  unfolding IsStrictlySortedBy
  more_sorted keys v s f = append_sorted value_cmp keys (v ∷ []) s (tt, tt) (λ x y h k. elim k [ inl e ↦ subst (λ z. value_cmp x z ≡ Less) (sym e) (f x h) | inr nothing ↦ absurd nothing ])

  in_more : {X : Type 0} (P : X → Type 0) (xs : List X) (x : X) → ((y : X) → IsIn y xs → P y) → P x → (y : X) → IsIn y (xs ++ x ∷ []) → P y
  in_more P xs x f p y h = elim (in_append xs (x ∷ []) y h) [
    | inl old ↦ f y old
    | inr new ↦ elim new [ inl e ↦ subst P (sym e) p | inr nothing ↦ absurd nothing ]
  ]

  last_in : {X : Type 0} (xs : List X) (x : X) → IsIn x (xs ++ x ∷ [])
  last_in xs x = append_right xs (x ∷ []) x (inl refl)

  module _ (i j : ℕ) (all : List Dispute) (m : IsMerged key T U i j all) where
    longer : {X : Type 0} (xs : List X) (x : X) → length (xs ++ x ∷ []) ≡ length xs + 1
    longer xs x = length-append xs (x ∷ [])

    -- ---- the first table has the next key

    module _ (r : Row) (at : slice_get T i ≡ Some r) (less : IsBefore key U j (cell r key)) where
      lacks_first : LacksKey key U (cell r key)
      lacks_first q h e =
          let l = at_in U q h in
          elim (cases_lt l.0 j) [
            | inl low ↦ unequal (cell q key) (cell r key) (m.second_passed l.0 q low l.1 i r (omega arith) at) e
            | inr high ↦ unequal (cell r key) (cell q key) (less l.0 q high l.1) (sym e)
          ]

      pub step_first : IsMerged key T U (i + 1) j (all ++ alone_first i ∷ [])
      step_first = record {
        keys = m.keys ++ cell r key ∷ [];
        in_order = more_sorted m.keys (cell r key) m.in_order (λ w h. m.below_first w h i r (omega arith) at);
        count = (let a = longer m.keys (cell r key) in let b = longer all (alone_first i) in let s = m.count in omega (arith, a, b, s));
        few = (let b = longer all (alone_first i) in let s = m.few in omega (arith, b, s));
        each = more_each m.keys all (cell r key) (alone_first i) m.count (IsDispute.first_alone i r at refl lacks_first refl) m.each;
        below_first = in_more (IsBefore key T (i + 1)) m.keys (cell r key) (λ w h k q low there. m.below_first w h k q (omega (arith, low)) there) (after T rt i r at);
        below_second = in_more (IsBefore key U j) m.keys (cell r key) m.below_second less;
        first_passed = λ k q low there. elim (cases_lt k i) [
          | inl l ↦ m.first_passed k q l there
          | inr l ↦ (let same : i ≡ k = omega (arith, low, l) in subst (λ x. IsBefore key U j (cell x key)) (same_Some r q (sym at ∙ ap (slice_get T) same ∙ there)) less)
        ];
        second_passed = λ l q low there k x high here. m.second_passed l q low there k x (omega (arith, high)) here;
        first_done = λ k q low there lacks. elim (cases_lt k i) [
          | inl l ↦ append_left all (alone_first i ∷ []) (alone_first k) (m.first_done k q l there lacks)
          | inr l ↦ (let same : i ≡ k = omega (arith, low, l) in subst (λ n. IsIn (alone_first n) (all ++ alone_first i ∷ [])) same (last_in all (alone_first i)))
        ];
        both_done = λ k l x q low here there same differ. elim (cases_lt k i) [
          | inl lower ↦ append_left all (alone_first i ∷ []) (of_both k l) (m.both_done k l x q lower here there same differ)
          | inr h ↦ (let place : i ≡ k = omega (arith, low, h) in
              let row : r ≡ x = same_Some r x (sym at ∙ ap (slice_get T) place ∙ here) in
              absurd (lacks_first q (in_at U l q there) (same ∙ ap (λ y. cell y key) (sym row))))
        ];
        second_done = λ l q low there lacks. append_left all (alone_first i ∷ []) (alone_second l) (m.second_done l q low there lacks);
      }

    -- ---- the second table has the next key

    module _ (q : Row) (at : slice_get U j ≡ Some q) (less : IsBefore key T i (cell q key)) where
      lacks_second : LacksKey key T (cell q key)
      lacks_second r h e =
          let l = at_in T r h in
          elim (cases_lt l.0 i) [
            | inl low ↦ unequal (cell r key) (cell q key) (m.first_passed l.0 r low l.1 j q (omega arith) at) e
            | inr high ↦ unequal (cell q key) (cell r key) (less l.0 r high l.1) (sym e)
          ]

      pub step_second : IsMerged key T U i (j + 1) (all ++ alone_second j ∷ [])
      step_second = record {
        keys = m.keys ++ cell q key ∷ [];
        in_order = more_sorted m.keys (cell q key) m.in_order (λ w h. m.below_second w h j q (omega arith) at);
        count = (let a = longer m.keys (cell q key) in let b = longer all (alone_second j) in let s = m.count in omega (arith, a, b, s));
        few = (let b = longer all (alone_second j) in let s = m.few in omega (arith, b, s));
        each = more_each m.keys all (cell q key) (alone_second j) m.count (IsDispute.second_alone j q at refl lacks_second refl) m.each;
        below_first = in_more (IsBefore key T i) m.keys (cell q key) m.below_first less;
        below_second = in_more (IsBefore key U (j + 1)) m.keys (cell q key) (λ w h k x low there. m.below_second w h k x (omega (arith, low)) there) (after U ru j q at);
        first_passed = λ k r low here l x high there. m.first_passed k r low here l x (omega (arith, high)) there;
        second_passed = λ l x low there. elim (cases_lt l j) [
          | inl h ↦ m.second_passed l x h there
          | inr h ↦ (let same : j ≡ l = omega (arith, low, h) in subst (λ y. IsBefore key T i (cell y key)) (same_Some q x (sym at ∙ ap (slice_get U) same ∙ there)) less)
        ];
        first_done = λ k r low here lacks. append_left all (alone_second j ∷ []) (alone_first k) (m.first_done k r low here lacks);
        both_done = λ k l r x low here there same differ. append_left all (alone_second j ∷ []) (of_both k l) (m.both_done k l r x low here there same differ);
        second_done = λ l x low there lacks. elim (cases_lt l j) [
          | inl h ↦ append_left all (alone_second j ∷ []) (alone_second l) (m.second_done l x h there lacks)
          | inr h ↦ (let same : j ≡ l = omega (arith, low, h) in subst (λ n. IsIn (alone_second n) (all ++ alone_second j ∷ [])) same (last_in all (alone_second j)))
        ];
      }

    -- ---- both tables have the next key

    module _ (r q : Row) (here : slice_get T i ≡ Some r) (there : slice_get U j ≡ Some q) (same : cell r key ≡ cell q key) where
      -- only one row of the second table has the key
      one_place : (l : ℕ) (x : Row) → slice_get U l ≡ Some x → cell x key ≡ cell r key → j ≡ l
      one_place l x at e = elim (cases_lt l j) [
        | inl low ↦ unequal (cell x key) (cell r key) (m.second_passed l x low at i r (omega arith) here) e
        | inr high ↦ elim (cases_lt j l) [
          | inl above ↦ unequal (cell q key) (cell x key) (ru j l q x above there at) (sym same ∙ sym e)
          | inr low ↦ omega (arith, high, low)
        ]
      ]

      after_first : IsBefore key U (j + 1) (cell r key)
      after_first = subst (IsBefore key U (j + 1)) (sym same) (after U ru j q there)

      after_second : IsBefore key T (i + 1) (cell q key)
      after_second = subst (IsBefore key T (i + 1)) same (after T rt i r here)

      passed_first : (k : ℕ) (x : Row) → k < i + 1 → slice_get T k ≡ Some x → IsBefore key U (j + 1) (cell x key)
      passed_first k x low at = elim (cases_lt k i) [
        | inl l ↦ (λ n y h g. m.first_passed k x l at n y (omega (arith, h)) g)
        | inr l ↦ (let place : i ≡ k = omega (arith, low, l) in subst (λ y. IsBefore key U (j + 1) (cell y key)) (same_Some r x (sym here ∙ ap (slice_get T) place ∙ at)) after_first)
      ]

      passed_second : (l : ℕ) (x : Row) → l < j + 1 → slice_get U l ≡ Some x → IsBefore key T (i + 1) (cell x key)
      passed_second l x low at = elim (cases_lt l j) [
        | inl h ↦ (λ n y g k. m.second_passed l x h at n y (omega (arith, g)) k)
        | inr h ↦ (let place : j ≡ l = omega (arith, low, h) in subst (λ y. IsBefore key T (i + 1) (cell y key)) (same_Some q x (sym there ∙ ap (slice_get U) place ∙ at)) after_second)
      ]

      done_first : (k : ℕ) (x : Row) → k < i + 1 → slice_get T k ≡ Some x → LacksKey key U (cell x key) → IsIn (alone_first k) all
      done_first k x low at lacks = elim (cases_lt k i) [
        | inl l ↦ m.first_done k x l at lacks
        | inr l ↦ (let place : i ≡ k = omega (arith, low, l) in
            let row : r ≡ x = same_Some r x (sym here ∙ ap (slice_get T) place ∙ at) in
            absurd (lacks q (in_at U j q there) (sym same ∙ ap (λ y. cell y key) row)))
      ]

      done_second : (l : ℕ) (x : Row) → l < j + 1 → slice_get U l ≡ Some x → LacksKey key T (cell x key) → IsIn (alone_second l) all
      done_second l x low at lacks = elim (cases_lt l j) [
        | inl h ↦ m.second_done l x h at lacks
        | inr h ↦ (let place : j ≡ l = omega (arith, low, h) in
            let row : q ≡ x = same_Some q x (sym there ∙ ap (slice_get U) place ∙ at) in
            absurd (lacks r (in_at T i r here) (same ∙ ap (λ y. cell y key) row)))
      ]

      pub step_same : r ≡ q → IsMerged key T U (i + 1) (j + 1) all
      step_same e = record {
        keys = m.keys;
        in_order = m.in_order;
        count = m.count;
        few = (let s = m.few in omega (arith, s));
        each = m.each;
        below_first = λ w h k x low at. m.below_first w h k x (omega (arith, low)) at;
        below_second = λ w h k x low at. m.below_second w h k x (omega (arith, low)) at;
        first_passed = passed_first;
        second_passed = passed_second;
        first_done = done_first;
        both_done = λ k l x y low at by alike differ. elim (cases_lt k i) [
          | inl h ↦ m.both_done k l x y h at by alike differ
          | inr h ↦ (let place : i ≡ k = omega (arith, low, h) in
              let row : r ≡ x = same_Some r x (sym here ∙ ap (slice_get T) place ∙ at) in
              let other = one_place l y by (alike ∙ ap (λ z. cell z key) (sym row)) in
              let partner : q ≡ y = same_Some q y (sym there ∙ ap (slice_get U) other ∙ by) in
              absurd (differ (sym row ∙ e ∙ partner)))
        ];
        second_done = done_second;
      }

      pub step_different : r ≢ q → IsMerged key T U (i + 1) (j + 1) (all ++ of_both i j ∷ [])
      step_different e = record {
        keys = m.keys ++ cell r key ∷ [];
        in_order = more_sorted m.keys (cell r key) m.in_order (λ w h. m.below_first w h i r (omega arith) here);
        count = (let a = longer m.keys (cell r key) in let b = longer all (of_both i j) in let s = m.count in omega (arith, a, b, s));
        few = (let b = longer all (of_both i j) in let s = m.few in omega (arith, b, s));
        each = more_each m.keys all (cell r key) (of_both i j) m.count (IsDispute.different i j r q here there refl (sym same) e refl) m.each;
        below_first = in_more (IsBefore key T (i + 1)) m.keys (cell r key) (λ w h k x low at. m.below_first w h k x (omega (arith, low)) at) (after T rt i r here);
        below_second = in_more (IsBefore key U (j + 1)) m.keys (cell r key) (λ w h k x low at. m.below_second w h k x (omega (arith, low)) at) after_first;
        first_passed = passed_first;
        second_passed = passed_second;
        first_done = λ k x low at lacks. append_left all (of_both i j ∷ []) (alone_first k) (done_first k x low at lacks);
        both_done = λ k l x y low at by alike differ. elim (cases_lt k i) [
          | inl h ↦ append_left all (of_both i j ∷ []) (of_both k l) (m.both_done k l x y h at by alike differ)
          | inr h ↦ (let place : i ≡ k = omega (arith, low, h) in
              let row : r ≡ x = same_Some r x (sym here ∙ ap (slice_get T) place ∙ at) in
              let other = one_place l y by (alike ∙ ap (λ z. cell z key) (sym row)) in
              subst (λ n. IsIn (of_both k n) (all ++ of_both i j ∷ [])) other (subst (λ n. IsIn (of_both n j) (all ++ of_both i j ∷ [])) place (last_in all (of_both i j))))
        ];
        second_done = λ l x low at lacks. append_left all (of_both i j ∷ []) (alone_second l) (done_second l x low at lacks);
      }

    -- ---- past the last rows

    pub finished : length T ≤ i → length U ≤ j → AreDisputes key T U all
    finished ends others = record {
      keys = m.keys;
      in_order = m.in_order;
      count = m.count;
      each = m.each;
      complete = complete;
    }
      where
        complete : (v : Value) (d : Dispute) → IsDispute key T U v d → IsIn d all
        complete v d (IsDispute.first_alone k r at e lacks is) =
            let low = slice_get_within T k r at in
            subst (λ x. IsIn x all) (sym is) (m.first_done k r (omega (arith, low, ends)) at (subst (LacksKey key U) (sym e) lacks))
        complete v d (IsDispute.second_alone l q at e lacks is) =
            let low = slice_get_within U l q at in
            subst (λ x. IsIn x all) (sym is) (m.second_done l q (omega (arith, low, others)) at (subst (LacksKey key T) (sym e) lacks))
        complete v d (IsDispute.different k l r q at by e f differ is) =
            let low = slice_get_within T k r at in
            subst (λ x. IsIn x all) (sym is) (m.both_done k l r q (omega (arith, low, ends)) at by (f ∙ sym e) differ)
