-- The search for fatal losses, one loss after the other: what it has found is what the losses that it has tried hold.
use Rattle.std.proofs.Common.{◌≡◌, ℕ, ◌+◌, ◌<◌, ◌≤◌, List, [], ◌∷◌, ◌++◌, length, not, refl, sym, ap, subst, ◌∙◌, arith, inl, inr, ◌⊎◌, Some}
use Rattle.std.proofs.lemmas.Bool.{cases_lt, cases_eq, cases_Bool}
use Rattle.std.proofs.lemmas.Option.{same_Some, slice_get_within}
use Rattle.std.proofs.lemmas.List.Kept.{IsStrictlySortedBy-filter}
use Rattle.std.specs.Prelude.{IsTrue}
use Rattle.std.specs.Ordering.{nat_cmp}
use Rattle.std.specs.List.{slice_get, filter, range_with_len}
use Rattle.std.specs.List.Sorted.{IsStrictlySortedBy}
use Rattle.std.specs.declared.cmp.Ordering.TheVariants.{Less}
use Rattle.cs_schema.specs.Lists.{IsIn, member}
use Rattle.cs_schema.specs.CatalogData.{CatalogData}
use Rattle.cs_schema.specs.Losses.{Sites, IsLoss, loss_cmp}
use Rattle.cs_schema.proofs.Ascending.{false≢true, in_filter, filter_in}
use Rattle.cs_schema.proofs.Lists.{member_in, in_member, in_at, at_in, append_left, append_right, in_append}
use Rattle.cs_schema.proofs.Surviving.{append_sorted}
use Rattle.cs_safety.specs.Safety.{IsSafe}
use Rattle.cs_safety.specs.Within.{IsWithin}
use Rattle.cs_safety.proofs.WithinSafe.{safe_within}
use Rattle.cs_design.specs.Fatal.{either, IsApart, IsFatal, HoldsOne, AreFatalLosses}
use Rattle.cs_design.specs.Order.{AreAllLosses}
use Rattle.cs_design.proofs.Items.{sorted_at}
use Rattle.cs_design.proofs.SmallerLosses.{within_size, same_loss, earlier_size}
use Rattle.cs_design.proofs.Unions.{either_within}
use Rattle.cs_design.proofs.Tails.{all_sites_tail, in_all_sites}

-- what was found when the losses below a place were tried
pub record IsSearched (C : CatalogData) (K : Sites) (losses : List Sites) (i : ℕ) (found : List Sites) : Type 0 where
  pub each : (L : Sites) → IsIn L found → (k : ℕ) × (k < i) × (slice_get losses k ≡ Some L) × IsFatal C K L × IsApart L K
  pub complete : (k : ℕ) (L : Sites) → k < i → slice_get losses k ≡ Some L → ¬ IsSafe C (either K L) → HoldsOne found L
  pub apart : (L M : Sites) → IsIn L found → IsIn M found → IsWithin L M → L ≡ M
  pub in_order : IsStrictlySortedBy loss_cmp found

-- a loss within another holds what it holds
pub holds_wider : (found : List Sites) (L M : Sites) → IsWithin L M → HoldsOne found L → HoldsOne found M
holds_wider found L M w (N, i, v) = (N, i, λ x m. w x (v x m))

module _ (C : CatalogData) (K : Sites) (losses : List Sites) (at_most : ℕ) (all : AreAllLosses C at_most losses) where
  pub begin : IsSearched C K losses 0 []
  unfolding IsStrictlySortedBy
  begin = record { each = λ L h. absurd h; complete = λ k L h. absurd (omega arith); apart = λ L M h. absurd h; in_order = tt }

  module _ (i : ℕ) (found : List Sites) (s : IsSearched C K losses i found) (L : Sites) (at : slice_get losses i ≡ Some L) where
    in_losses : IsIn L losses
    in_losses = in_at losses i L at

    loss : IsLoss C L
    loss = ((all.members L).0 in_losses).0

    -- a loss with fewer sites was tried before
    tried_before : (M : Sites) → IsLoss C M → length M < length L → (k : ℕ) × (k < i) × (slice_get losses k ≡ Some M)
    tried_before M m few =
        let size = ((all.members L).0 in_losses).1 in
        let place = at_in losses M ((all.members M).1 (m, omega (arith, few, size))) in (
          place.0,
          elim (cases_lt place.0 i) [
            | inl l ↦ l
            | inr l ↦ elim (cases_eq i place.0) [
              | inl same ↦ (let e : length M ≡ length L = ap length (same_Some M L (sym place.1 ∙ ap (slice_get losses) (sym same) ∙ at)) in absurd (omega (arith, e, few)))
              | inr d ↦ (let e = earlier_size L M (sorted_at loss_cmp losses i place.0 L M all.in_order (omega arith) at place.1) in absurd (omega (arith, e, few)))
            ]
          ],
          place.1,
        )

    -- one that adds nothing: what is unsafe with it holds one found
    pub skip : (¬ IsSafe C (either K L) → HoldsOne found L) → IsSearched C K losses (i + 1) found
    skip f = record {
      each = λ M h. let a = s.each M h in (a.0, (let l = a.1 in omega (arith, l)), a.2, a.3, a.4);
      complete = λ k M h g u. elim (cases_lt k i) [
        | inl l ↦ s.complete k M l g u
        | inr l ↦ (let same : i ≡ k = omega arith in
            let e : L ≡ M = same_Some L M (sym at ∙ ap (slice_get losses) same ∙ g) in
            subst (HoldsOne found) e (f (subst (λ V. ¬ IsSafe C (either K V)) (sym e) u)))
      ];
      apart = s.apart;
      in_order = s.in_order;
    }

    -- its sites that are not lost already
    abbrev further : Sites
    further = filter (λ x. not (member K x)) L

    further_within : IsWithin further L
    further_within x m = in_member L x (in_filter (λ y. not (member K y)) L x (member_in further x m)).0

    further_loss : IsLoss C further
    further_loss = (IsStrictlySortedBy-filter nat_cmp (λ x. not (member K x)) L loss.0, λ x m. loss.1 x (further_within x m))

    further_unsafe : ¬ IsSafe C (either K L) → ¬ IsSafe C (either K further)
    further_unsafe u safe = u (safe_within (either K L) (either K further) (either_within K L further (λ x m. covered x m)) C C.safety safe)
      where
        covered : (x : ℕ) → IsTrue (member L x) → IsTrue (member K x) ⊎ IsTrue (member further x)
        covered x m = elim (cases_Bool (member K x)) [
          | inl y ↦ inl y
          | inr n ↦ inr (in_member further x (filter_in (λ y. not (member K y)) L x (member_in L x m) (ap not n)))
        ]

    further_fewer : (x : ℕ) → IsTrue (member L x) → IsTrue (member K x) → length further < length L
    further_fewer x m k = elim (cases_lt (length further) (length L)) [
      | inl l ↦ l
      | inr l ↦
          (let e = same_loss further L further_loss.0 loss.0 further_within (omega arith) in
          let y = (in_filter (λ y. not (member K y)) L x (subst (IsIn x) (sym e) (member_in L x m))).1 in
          absurd (false≢true (ap not (sym k) ∙ y)))
    ]

    -- a loss of a site that is lost already
    pub skip_lost : (x : ℕ) → IsTrue (member L x) → IsTrue (member K x) → IsSearched C K losses (i + 1) found
    skip_lost x m k = skip (λ u.
        let t = tried_before further further_loss (further_fewer x m k) in
        holds_wider found further L further_within (s.complete t.0 further t.1 t.2 (further_unsafe u)))

    -- a new fatal loss
    pub add : IsApart L K → ¬ HoldsOne found L → ¬ IsSafe C (either K L) → IsSearched C K losses (i + 1) (found ++ L ∷ [])
    unfolding IsStrictlySortedBy
    add beside new u = record {
      each = λ M h. each M (in_append found (L ∷ []) M h);
      complete = λ k M h g v. elim (cases_lt k i) [
        | inl b ↦ (let x = s.complete k M b g v in (x.0, append_left found (L ∷ []) x.0 x.1, x.2))
        | inr b ↦ (let same : i ≡ k = omega arith in
            let e : L ≡ M = same_Some L M (sym at ∙ ap (slice_get losses) same ∙ g) in
            (L, append_right found (L ∷ []) L (inl refl), subst (IsWithin L) e (λ x m. m)))
      ];
      apart = λ M N h k w. apart M N (in_append found (L ∷ []) M h) (in_append found (L ∷ []) N k) w;
      in_order = append_sorted loss_cmp found (L ∷ []) s.in_order (tt, tt) (λ M N h k. below M N h k);
    }
      where
        IsOf : Sites → Type 0
        IsOf M = (k : ℕ) × (k < i + 1) × (slice_get losses k ≡ Some M) × IsFatal C K M × IsApart M K

        each : (M : Sites) → IsIn M found ⊎ IsIn M (L ∷ []) → IsOf M
        each M (inl h) = let a = s.each M h in (a.0, (let l = a.1 in omega (arith, l)), a.2, a.3, a.4)
        each M (inr (inl e)) = subst IsOf (sym e) (i, omega arith, at, record { loss = loss; is_unsafe = u }, beside)
        each M (inr (inr h)) = absurd h

        earlier : (M : Sites) → IsIn M found → loss_cmp M L ≡ Less
        earlier M h = let a = s.each M h in sorted_at loss_cmp losses a.0 i M L all.in_order a.1 a.2 at

        below : (M N : Sites) → IsIn M found → IsIn N (L ∷ []) → loss_cmp M N ≡ Less
        below M N h (inl e) = subst (λ V. loss_cmp M V ≡ Less) (sym e) (earlier M h)
        below M N h (inr k) = absurd k

        apart : (M N : Sites) → IsIn M found ⊎ IsIn M (L ∷ []) → IsIn N found ⊎ IsIn N (L ∷ []) → IsWithin M N → M ≡ N
        apart M N (inl h) (inl k) w = s.apart M N h k w
        apart M N (inl h) (inr (inl e)) w = absurd (new (M, h, subst (IsWithin M) e w))
        apart M N (inr (inl e)) (inl k) w =
            let v : IsWithin L N = subst (λ V. IsWithin V N) e w in
            let n = (s.each N k).3.loss in
            e ∙ same_loss L N loss.0 n.0 v (earlier_size N L (earlier N k))
        apart M N (inr (inl e)) (inr (inl f)) w = e ∙ sym f
        apart M N (inr (inr h)) k w = absurd h
        apart M N (inl h) (inr (inr k)) w = absurd k
        apart M N (inr (inl e)) (inr (inr k)) w = absurd k

  -- all losses are tried
  pub finish : (i : ℕ) (found : List Sites) → IsSearched C K losses i found → at_most ≡ C.sites → length losses ≤ i → AreFatalLosses C K found
  finish i found s e end = record {
    each = λ L h. (s.each L h).3;
    beside = λ L h. (s.each L h).4;
    exact = λ L l. (exact L l, λ x. unsafe L x);
    apart = s.apart;
    in_order = s.in_order;
  }
    where
      unsafe : (L : Sites) → HoldsOne found L → ¬ IsSafe C (either K L)
      unsafe L (M, h, w) safe = (s.each M h).3.is_unsafe (safe_within (either K M) (either K L) (either_within K M L (λ x m. inr (w x m))) C C.safety safe)

      exact : (L : Sites) → IsLoss C L → ¬ IsSafe C (either K L) → HoldsOne found L
      exact L l u =
          let size = within_size L (range_with_len 1 C.sites) l.0 (all_sites_tail C).in_order (λ x m. in_all_sites C x (l.1 x m).0 (l.1 x m).1) in
          let whole = (all_sites_tail C).size in
          let few : length L ≤ C.sites = omega (arith, size, whole) in
          let place = at_in losses L ((all.members L).1 (l, omega (arith, few, e))) in
          let low = slice_get_within losses place.0 L place.1 in
          s.complete place.0 L (omega (arith, low, end)) place.1 u
