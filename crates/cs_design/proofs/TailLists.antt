-- The list of all losses: it ascends, and has just the losses of so many sites.
use Rattle.std.proofs.Common.{◌≡◌, ℕ, zero, suc, ◌+◌, ◌-◌, ◌<◌, ◌≤◌, List, [], ◌∷◌, ◌++◌, length, map, append_assoc, refl, sym, ap, subst, ◌∙◌, arith, inl, inr}
use Rattle.std.proofs.lemmas.List.{map-append}
use Rattle.std.specs.List.{flat_map, range_with_len}
use Rattle.std.specs.List.Sorted.{IsStrictlySortedBy}
use Rattle.std.specs.Ordering.{nat_cmp, ordering_then}
use Rattle.std.specs.Cmp.{nat_cmp_is, nat_cmp_total, tied_itself}
use Rattle.std.specs.Cmp.Lexicographic.{slice_cmp}
use Rattle.std.specs.declared.cmp.Ordering.TheVariants.{Less, Equal}
use Rattle.cs_schema.specs.Lists.{IsIn}
use Rattle.cs_schema.specs.CatalogData.{CatalogData}
use Rattle.cs_schema.specs.Losses.{Sites, IsLoss, loss_cmp}
use Rattle.cs_schema.proofs.Ascending.{All-from_in, All-in}
use Rattle.cs_schema.proofs.Lists.{in_map, map_in, in_range, range_in, flat_more}
use Rattle.cs_schema.proofs.Surviving.{in_flat, flat_in, flat_sorted}
use Rattle.cs_safety.specs.LossSearch.{IsTail}
use Rattle.cs_safety.proofs.LossTails.{empty_tail, tail_cons, head_low, head_high, tail_rest, loss_tail, tail_loss, then_joined}
use Rattle.cs_design.specs.Order.{tails, losses_from, AreAllLosses}

-- the tails that begin with a site
abbrev pub tails_with : ℕ → ℕ → ℕ → List Sites
tails_with sites count x = map (λ T. x ∷ T) (tails sites (x + 1) count)

-- ---- their members

module _ (C : CatalogData) where
  pub tails_are : (count from : ℕ) (T : Sites) → IsIn T (tails C.sites from count) → IsTail C from count T
  tails_are zero from T (inl e) = subst (λ V. IsTail C from 0 V) (sym e) (empty_tail C from)
  tails_are zero from T (inr h) = absurd h
  tails_are (suc count) from T h =
      let head = in_flat (tails_with C.sites count) (range_with_len from (C.sites + 1 - from)) T h in
      let rest = in_map (λ V. head.0 ∷ V) (tails C.sites (head.0 + 1) count) T head.2 in
      let at = in_range from (C.sites + 1 - from) head.0 head.1 in
      let low = at.0 in
      let high = at.1 in
      let one : suc count - 1 ≡ count = omega arith in
      let more = subst (λ n. IsTail C (head.0 + 1) n rest.0) (sym one) (tails_are count (head.0 + 1) rest.0 rest.1) in
      subst (λ V. IsTail C from (suc count) V) (sym rest.2) (tail_cons C from (suc count) head.0 rest.0 low (omega (arith, low, high)) (omega arith) more)

  pub tails_all : (count from : ℕ) (T : Sites) → IsTail C from count T → IsIn T (tails C.sites from count)
  tails_all zero from [] t = inl refl
  tails_all zero from (x ∷ T) t = let e = t.size in absurd (omega (arith, e))
  tails_all (suc count) from [] t = let e = t.size in absurd (omega (arith, e))
  tails_all (suc count) from (x ∷ T) t =
      let one : suc count - 1 ≡ count = omega arith in
      let more = tails_all count (x + 1) T (subst (λ n. IsTail C (x + 1) n T) one (tail_rest C from (suc count) x T t)) in
      let low = head_low C from (suc count) x T t in
      let high = head_high C from (suc count) x T t in
      flat_in (tails_with C.sites count) (range_with_len from (C.sites + 1 - from)) x (x ∷ T) (range_in from (C.sites + 1 - from) x low (omega (arith, low, high))) (map_in (λ V. x ∷ V) (tails C.sites (x + 1) count) T more)

-- ---- their order

cons_sorted : (x : ℕ) (Ts : List Sites) → IsStrictlySortedBy (slice_cmp nat_cmp) Ts → IsStrictlySortedBy (slice_cmp nat_cmp) (map (λ T. x ∷ T) Ts)
unfolding IsStrictlySortedBy
cons_sorted x [] s = tt
cons_sorted x (T ∷ Ts) s = (All-from_in (λ W. slice_cmp nat_cmp (x ∷ T) W ≡ Less) (map (λ V. x ∷ V) Ts) (λ W h. below W (in_map (λ V. x ∷ V) Ts W h)), cons_sorted x Ts s.1)
  where
    below : (W : Sites) → (V : Sites) × IsIn V Ts × (W ≡ x ∷ V) → slice_cmp nat_cmp (x ∷ T) W ≡ Less
    below W (V, h, e) =
        subst (λ U. slice_cmp nat_cmp (x ∷ T) U ≡ Less) (sym e)
        (ap (λ o. ordering_then o (slice_cmp nat_cmp T V)) (tied_itself nat_cmp_total x) ∙ All-in (λ U. slice_cmp nat_cmp T U ≡ Less) Ts s.0 V h)

heads_sorted : (sites count i j : ℕ) (S T : Sites) → i < j → IsIn S (tails_with sites count i) → IsIn T (tails_with sites count j) → slice_cmp nat_cmp S T ≡ Less
heads_sorted sites count i j S T l h k =
    let a = in_map (λ V. i ∷ V) (tails sites (i + 1) count) S h in
    let b = in_map (λ V. j ∷ V) (tails sites (j + 1) count) T k in
    let first : slice_cmp nat_cmp (i ∷ a.0) (j ∷ b.0) ≡ Less = ap (λ o. ordering_then o (slice_cmp nat_cmp a.0 b.0)) (sym (nat_cmp_is i j Less l)) in
    subst (λ U. slice_cmp nat_cmp U T ≡ Less) (sym a.2) (subst (λ U. slice_cmp nat_cmp (i ∷ a.0) U ≡ Less) (sym b.2) first)

pub tails_sorted : (sites count from : ℕ) → IsStrictlySortedBy (slice_cmp nat_cmp) (tails sites from count)
unfolding IsStrictlySortedBy
tails_sorted sites zero from = (tt, tt)
tails_sorted sites (suc count) from =
    flat_sorted (slice_cmp nat_cmp) (tails_with sites count) from (sites + 1 - from)
    (λ x. cons_sorted x (tails sites (x + 1) count) (tails_sorted sites count (x + 1)))
    (λ i j S T l h k. heads_sorted sites count i j S T l h k)

-- ---- all losses

abbrev pub losses_up_to : ℕ → ℕ → List Sites
losses_up_to sites n = flat_map (tails sites 1) (range_with_len 0 n)

module _ (C : CatalogData) where
  size_of : (n : ℕ) (L : Sites) → IsIn L (tails C.sites 1 n) → length L ≡ n
  size_of n L h = (tails_are C n 1 L h).size

  same_size : (n : ℕ) (Ls : List Sites) → ((L : Sites) → IsIn L Ls → length L ≡ n) → IsStrictlySortedBy (slice_cmp nat_cmp) Ls → IsStrictlySortedBy loss_cmp Ls
  unfolding IsStrictlySortedBy
  same_size n [] f s = tt
  same_size n (L ∷ Ls) f s = (All-from_in (λ M. loss_cmp L M ≡ Less) Ls (λ M h. below M h), same_size n Ls (λ M h. f M (inr h)) s.1)
    where
      below : (M : Sites) → IsIn M Ls → loss_cmp L M ≡ Less
      below M h =
          ap (λ o. ordering_then o (slice_cmp nat_cmp L M)) (sym (nat_cmp_is (length L) (length M) Equal (f L (inl refl) ∙ sym (f M (inr h)))))
          ∙ All-in (λ U. slice_cmp nat_cmp L U ≡ Less) Ls s.0 M h

  fewer_first : (i j : ℕ) (L M : Sites) → i < j → IsIn L (tails C.sites 1 i) → IsIn M (tails C.sites 1 j) → loss_cmp L M ≡ Less
  fewer_first i j L M l h k =
      let a = size_of i L h in
      let b = size_of j M k in
      ap (λ o. ordering_then o (slice_cmp nat_cmp L M)) (sym (nat_cmp_is (length L) (length M) Less (omega (arith, a, b))))

  pub all_losses_are : (at_most : ℕ) → AreAllLosses C at_most (losses_up_to C.sites (at_most + 1))
  all_losses_are at_most = record {
    members = λ L. (there L, λ m. here L m.0 m.1);
    in_order = flat_sorted loss_cmp (tails C.sites 1) 0 (at_most + 1) (λ n. same_size n (tails C.sites 1 n) (size_of n) (tails_sorted C.sites n 1)) (λ i j L M l h k. fewer_first i j L M l h k);
  }
    where
      there : (L : Sites) → IsIn L (losses_up_to C.sites (at_most + 1)) → IsLoss C L × (length L ≤ at_most)
      there L h =
          let n = in_flat (tails C.sites 1) (range_with_len 0 (at_most + 1)) L h in
          let high = (in_range 0 (at_most + 1) n.0 n.1).1 in
          let size = size_of n.0 L n.2 in
          (tail_loss C n.0 L (tails_are C n.0 1 L n.2), omega (arith, high, size))

      here : (L : Sites) → IsLoss C L → length L ≤ at_most → IsIn L (losses_up_to C.sites (at_most + 1))
      here L l few = flat_in (tails C.sites 1) (range_with_len 0 (at_most + 1)) (length L) L (range_in 0 (at_most + 1) (length L) (omega arith) (omega arith)) (tails_all C (length L) 1 L (loss_tail C L l))

-- ---- how they are put together

no_chosen : (Ts : List Sites) → map (λ T. [] ++ T) Ts ≡ Ts
no_chosen [] = refl
no_chosen (T ∷ Ts) = ap (λ Vs. T ∷ Vs) (no_chosen Ts)

-- the losses of one site more
pub next_size : (sites n : ℕ) (items new : List Sites) (none : Sites) → none ≡ [] → items ≡ losses_up_to sites n → new ≡ items ++ losses_from sites none 1 n → new ≡ losses_up_to sites (n + 1)
next_size sites n items new none e f g =
    g ∙ ap (λ Vs. Vs ++ losses_from sites none 1 n) f ∙ ap (λ V. losses_up_to sites n ++ losses_from sites V 1 n) e
    ∙ ap (λ Vs. losses_up_to sites n ++ Vs) (no_chosen (tails sites 1 n) ∙ ap (tails sites 1) zero_first) ∙ sym (flat_more (tails sites 1) 0 n)
  where
    zero_first : n ≡ 0 + n
    zero_first = omega arith

module _ (sites : ℕ) (chosen : Sites) (from : ℕ) where
  -- the losses whose next site is below one
  abbrev pub losses_below : ℕ → ℕ → List Sites
  losses_below count site = map (λ T. chosen ++ T) (flat_map (tails_with sites count) (range_with_len from (site - from)))

  with_chosen : (site : ℕ) (W : Sites) → W ≡ chosen ++ site ∷ [] → (Ts : List Sites) → map (λ T. W ++ T) Ts ≡ map (λ T. chosen ++ T) (map (λ T. site ∷ T) Ts)
  with_chosen site W e [] = refl
  with_chosen site W e (T ∷ Ts) =
      let first : W ++ T ≡ chosen ++ site ∷ T = ap (λ V. V ++ T) e ∙ then_joined chosen site T in
      ap (λ V. V ∷ map (λ U. W ++ U) Ts) first ∙ ap (λ Vs. (chosen ++ site ∷ T) ∷ Vs) (with_chosen site W e Ts)

  -- the losses of one next site more
  pub next_site : (site count : ℕ) (W : Sites) (old items new : List Sites) → from ≤ site → W ≡ chosen ++ site ∷ [] → items ≡ old ++ losses_below count site → new ≡ items ++ losses_from sites W (site + 1) count
      → new ≡ old ++ losses_below count (site + 1)
  next_site site count W old items new low e f g =
      let step : site + 1 - from ≡ (site - from) + 1 = omega arith in
      let here : from + (site - from) ≡ site = omega arith in
      let below = flat_map (tails_with sites count) (range_with_len from (site - from)) in
      let grown : losses_below count (site + 1) ≡ losses_below count site ++ map (λ T. chosen ++ T) (tails_with sites count site) =
      ap (λ n. map (λ T. chosen ++ T) (flat_map (tails_with sites count) (range_with_len from n))) step
      ∙ ap (map (λ T. chosen ++ T)) (flat_more (tails_with sites count) from (site - from) ∙ ap (λ x. below ++ tails_with sites count x) here)
      ∙ map-append (λ T. chosen ++ T) below (tails_with sites count site) in
      g ∙ ap (λ Vs. Vs ++ losses_from sites W (site + 1) count) f
      ∙ append_assoc old (losses_below count site) (losses_from sites W (site + 1) count)
      ∙ ap (λ Vs. old ++ (losses_below count site ++ Vs)) (with_chosen site W e (tails sites (site + 1) count))
      ∙ ap (λ Vs. old ++ Vs) (sym grown)

  pub all_sites : (site count n : ℕ) (old items : List Sites) → n ≡ suc count → site ≡ sites + 1 → items ≡ old ++ losses_below count site → items ≡ old ++ losses_from sites chosen from n
  all_sites site count n old items e f g = g ∙ ap (λ x. old ++ losses_below count x) f ∙ ap (λ m. old ++ losses_from sites chosen from m) (sym e)
