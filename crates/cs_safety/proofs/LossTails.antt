-- Ascending lists of sites: their heads and tails, and their order.
use Rattle.std.proofs.Common.{◌≡◌, ℕ, ◌+◌, ◌-◌, ◌<◌, ◌≤◌, ◌==◌, ◌++◌, [], ◌∷◌, length, true, sym, ap, subst, ◌∙◌, refl, arith, inl, inr, append_assoc}
use Rattle.std.specs.Ordering.{nat_cmp, ordering_then}
use Rattle.std.specs.Cmp.{nat_cmp_is}
use Rattle.std.specs.Cmp.Lexicographic.{slice_cmp}
use Rattle.std.specs.List.Sorted.{IsStrictlySortedBy}
use Rattle.std.specs.declared.cmp.Ordering.TheVariants.{Less, Equal, Greater}
use Rattle.std.proofs.lemmas.Bool.{cases_lt, cases_eq}
use Rattle.std.proofs.lemmas.List.{append-nil}
use Rattle.cs_schema.specs.Lists.{IsIn, member}
use Rattle.cs_schema.specs.CatalogData.{CatalogData}
use Rattle.cs_schema.specs.Order.{by_order, placed}
use Rattle.cs_schema.specs.Losses.{Sites, IsLoss, loss_cmp}
use Rattle.cs_safety.specs.Safety.{IsSafe, IsFirstUnsafe}
use Rattle.cs_safety.specs.LossSearch.{IsTail, IsUnsafeTail}
use Rattle.cs_schema.proofs.Ascending.{less≢equal, less≢greater, All-in, All-from_in}
use Rattle.cs_schema.proofs.Lists.{member_in, in_member}
use Rattle.cs_safety.proofs.Bounded.{or_right}

pub less_lt : (y z : ℕ) → nat_cmp y z ≡ Less → y < z
less_lt y z e = elim (cases_lt y z) [
  | inl l ↦ l
  | inr l ↦ elim (cases_eq y z) [
    | inl same ↦ less≢equal (sym e ∙ sym (nat_cmp_is y z Equal same))
    | inr apart ↦ less≢greater (sym e ∙ sym (nat_cmp_is y z Greater (omega arith)))
  ]
]

pub lt_less : (y z : ℕ) → y < z → nat_cmp y z ≡ Less
lt_less y z h = sym (nat_cmp_is y z Less h)

module _ (C : CatalogData) where
  pub empty_tail : (from : ℕ) → IsTail C from 0 []
  unfolding IsStrictlySortedBy
  empty_tail from = record { in_order = tt; low = λ x m. absurd (member_in [] x m); high = λ x m. absurd (member_in [] x m); size = refl }

  pub tail_cons : (from n x : ℕ) (T : Sites) → from ≤ x → x ≤ C.sites → 1 ≤ n → IsTail C (x + 1) (n - 1) T → IsTail C from n (x ∷ T)
  unfolding IsStrictlySortedBy
  tail_cons from n x T l h one t = record {
    in_order = (All-from_in (λ z. nat_cmp x z ≡ Less) T (λ z i. let b = t.low z (in_member T z i) in lt_less x z (omega (arith, b))), t.in_order);
    low = λ z m. low z (member_in (x ∷ T) z m);
    high = λ z m. high z (member_in (x ∷ T) z m);
    size = let e = t.size in omega (arith, e);
  }
    where
      low : (z : ℕ) → IsIn z (x ∷ T) → from ≤ z
      low z (inl e) = omega arith
      low z (inr i) = let b = t.low z (in_member T z i) in omega (arith, b)

      high : (z : ℕ) → IsIn z (x ∷ T) → z ≤ C.sites
      high z (inl e) = omega arith
      high z (inr i) = t.high z (in_member T z i)

  pub head_low : (from n x : ℕ) (T : Sites) → IsTail C from n (x ∷ T) → from ≤ x
  head_low from n x T t = t.low x (in_member (x ∷ T) x (inl refl))

  pub head_high : (from n x : ℕ) (T : Sites) → IsTail C from n (x ∷ T) → x ≤ C.sites
  head_high from n x T t = t.high x (in_member (x ∷ T) x (inl refl))

  pub tail_rest : (from n x : ℕ) (T : Sites) → IsTail C from n (x ∷ T) → IsTail C (x + 1) (n - 1) T
  unfolding IsStrictlySortedBy
  tail_rest from n x T t = record {
    in_order = t.in_order.1;
    low = λ z m. let l = less_lt x z (All-in (λ z. nat_cmp x z ≡ Less) T t.in_order.0 z (member_in T z m)) in omega (arith, l);
    high = λ z m. t.high z (or_right (x == z) (member T z) m);
    size = let e = t.size in omega (arith, e);
  }

-- a site above all others comes last
pub placed_last : (site : ℕ) (xs : Sites) → ((x : ℕ) → member xs x ≡ true → x < site) → placed nat_cmp site xs ≡ xs ++ site ∷ []
placed_last site [] h = refl
placed_last site (x ∷ xs) h =
    let l : x < site = h x (in_member (x ∷ xs) x (inl refl)) in
    ap (λ o. by_order o (site ∷ x ∷ xs) (x ∷ xs) (x ∷ placed nat_cmp site xs)) (sym (nat_cmp_is site x Greater l))
    ∙ ap (λ ys. x ∷ ys) (placed_last site xs (λ z m. h z (or_right (x == z) (member xs z) m)))

pub then_joined : (chosen : Sites) (site : ℕ) (T : Sites) → (chosen ++ site ∷ []) ++ T ≡ chosen ++ site ∷ T
then_joined chosen site T = append_assoc chosen (site ∷ []) T

-- the first unsafe tail of those that begin with a site is the first of all, where no earlier head has one
pub unsafe_from : (C : CatalogData) (chosen W : Sites) (from n site : ℕ) (L : Sites) → W ≡ chosen ++ site ∷ [] → from ≤ site → site ≤ C.sites → 1 ≤ n
    → ((x : ℕ) (T : Sites) → from ≤ x → x < site → IsTail C (x + 1) (n - 1) T → IsSafe C (chosen ++ x ∷ T))
    → IsUnsafeTail C W (site + 1) (n - 1) L → IsUnsafeTail C chosen from n L
unsafe_from C chosen W from n site L is low high one earlier u = record {
  tail = site ∷ u.tail;
  is_tail = tail_cons C from n site u.tail low high one u.is_tail;
  is = u.is ∙ ap (λ V. V ++ u.tail) is ∙ then_joined chosen site u.tail;
  is_unsafe = u.is_unsafe;
  before = λ T t l. before T t l;
}
  where
    same_head : (x : ℕ) (T : Sites) → IsTail C (x + 1) (n - 1) T → x ≡ site → ordering_then (nat_cmp x site) (slice_cmp nat_cmp T u.tail) ≡ Less → IsSafe C (chosen ++ x ∷ T)
    same_head x T t e l =
        let same : nat_cmp x site ≡ Equal = sym (nat_cmp_is x site Equal e) in
        let rest : slice_cmp nat_cmp T u.tail ≡ Less = ap (λ o. ordering_then o (slice_cmp nat_cmp T u.tail)) (sym same) ∙ l in
        let safe = u.before T (subst (λ y. IsTail C (y + 1) (n - 1) T) e t) rest in
        let moved : IsSafe C (chosen ++ site ∷ T) = subst (λ V. IsSafe C V) (ap (λ V. V ++ T) is ∙ then_joined chosen site T) safe in
        subst (λ y. IsSafe C (chosen ++ y ∷ T)) (sym e) moved

    later : (x : ℕ) (T : Sites) → site < x → ordering_then (nat_cmp x site) (slice_cmp nat_cmp T u.tail) ≡ Less → ⊥
    later x T h l = less≢greater (sym l ∙ ap (λ o. ordering_then o (slice_cmp nat_cmp T u.tail)) (sym (nat_cmp_is x site Greater h)))

    before : (T : Sites) → IsTail C from n T → slice_cmp nat_cmp T (site ∷ u.tail) ≡ Less → IsSafe C (chosen ++ T)
    before [] t l = let e = t.size in absurd (omega (arith, e))
    before (x ∷ T) t l = elim (cases_lt x site) [
      | inl h ↦ earlier x T (head_low C from n x T t) h (tail_rest C from n x T t)
      | inr h ↦ elim (cases_eq x site) [
        | inl e ↦ same_head x T (tail_rest C from n x T t) e l
        | inr d ↦ absurd (later x T (omega arith) l)
      ]
    ]

pub loss_tail : (C : CatalogData) (L : Sites) → IsLoss C L → IsTail C 1 (length L) L
loss_tail C L l = record { in_order = l.0; low = λ x m. (l.1 x m).0; high = λ x m. (l.1 x m).1; size = refl }

pub tail_loss : (C : CatalogData) (n : ℕ) (L : Sites) → IsTail C 1 n L → IsLoss C L
tail_loss C n L t = (t.in_order, λ x m. (t.low x m, t.high x m))

pub first_unsafe_loss : (C : CatalogData) (k n : ℕ) (L : Sites) → n ≤ k → ((m : ℕ) (T : Sites) → m < n → IsTail C 1 m T → IsSafe C T) → IsUnsafeTail C [] 1 n L → IsFirstUnsafe C k L
first_unsafe_loss C k n L h earlier u = record {
  loss = subst (IsLoss C) (sym u.is) (tail_loss C n u.tail u.is_tail);
  count = let e = ap length u.is in let f = u.is_tail.size in omega (arith, e, f);
  is_unsafe = u.is_unsafe;
  before = λ M m l. before M m l;
}
  where
    before : (M : Sites) → IsLoss C M → loss_cmp M L ≡ Less → IsSafe C M
    before M m l = elim (cases_lt (length M) (length L)) [
      | inl s ↦ earlier (length M) M (let e = ap length u.is in let f = u.is_tail.size in omega (arith, e, f, s)) (loss_tail C M m)
      | inr s ↦ elim (cases_eq (length M) (length L)) [
        | inl e ↦
            let rest : slice_cmp nat_cmp M L ≡ Less = ap (λ o. ordering_then o (slice_cmp nat_cmp M L)) (nat_cmp_is (length M) (length L) Equal e) ∙ l in
            let size : length M ≡ n = e ∙ ap length u.is ∙ u.is_tail.size in
            u.before M (subst (λ j. IsTail C 1 j M) size (loss_tail C M m)) (subst (λ V. slice_cmp nat_cmp M V ≡ Less) u.is rest)
        | inr d ↦ less≢greater (sym l ∙ ap (λ o. ordering_then o (slice_cmp nat_cmp M L)) (sym (nat_cmp_is (length M) (length L) Greater (omega arith))))
      ]
    ]

-- with no further site the chosen ones are the only loss
pub chosen_unsafe : (C : CatalogData) (chosen : Sites) (from n : ℕ) → n ≡ 0 → ¬ IsSafe C chosen → IsUnsafeTail C chosen from n chosen
chosen_unsafe C chosen from n e u = record {
  tail = [];
  is_tail = subst (λ m. IsTail C from m []) (sym e) (empty_tail C from);
  is = sym (append-nil chosen);
  is_unsafe = u;
  before = λ T t l. go T (subst (λ m. IsTail C from m T) e t) l;
}
  where
    go : (T : Sites) → IsTail C from 0 T → slice_cmp nat_cmp T [] ≡ Less → IsSafe C (chosen ++ T)
    go [] t l = less≢equal (sym l)
    go (x ∷ T) t l = less≢greater (sym l)
