-- Losses that add some sites to chosen ones; and that the loss of all sites is unsafe.
use Rattle.std.proofs.Common.{◌≡◌, ℕ, zero, suc, ◌+◌, ◌-◌, ◌<◌, ◌≤◌, ◌++◌, [], ◌∷◌, length, Bool, not, true, false, sym, ap, subst, ◌∙◌, arith}
use Rattle.std.proofs.lemmas.List.{append-nil}
use Rattle.std.specs.Prelude.{IsTrue, slice_index}
use Rattle.std.specs.List.{range_with_len}
use Rattle.cs_schema.specs.declared.kinds.Safety.{Safety}
use Rattle.cs_schema.specs.Lists.{member}
use Rattle.cs_schema.specs.CatalogData.{CatalogData, projection, segments}
use Rattle.cs_schema.specs.CatalogRules.{IsCatalog}
use Rattle.cs_schema.specs.Losses.{Sites, lost}
use Rattle.cs_schema.specs.Rows.{segment_of_row}
use Rattle.cs_schema.proofs.Ascending.{false≢true}
use Rattle.cs_schema.proofs.Lists.{in_member, member_at, range_in}
use Rattle.cs_safety.specs.Safety.{IsSafe, IsSafeBy}
use Rattle.cs_safety.specs.LossSearch.{IsTail}
use Rattle.cs_safety.proofs.AliveLemmas.{segment_below, alive_kept}
use Rattle.cs_safety.proofs.RowSetLemmas.{some_row}
use Rattle.cs_safety.proofs.LossTails.{empty_tail, tail_cons, head_low, head_high, tail_rest, then_joined}
use Rattle.cs_design.specs.Fatal.{either}
use Rattle.cs_design.specs.Tails.{HasUnsafeTail, AreTailsSafe}

-- ---- one tail

module _ (C : CatalogData) (K chosen : Sites) (from : ℕ) where
  pub safe_alone : (n : ℕ) → n ≡ 0 → IsSafe C (either K chosen) → AreTailsSafe C K chosen from n
  safe_alone n e s [] t = subst (λ L. IsSafe C (either K L)) (sym (append-nil chosen)) s
  safe_alone n e s (x ∷ T) t = let f = t.size in absurd (omega (arith, e, f))

  pub unsafe_alone : (n : ℕ) → n ≡ 0 → ¬ IsSafe C (either K chosen) → HasUnsafeTail C K chosen from n
  unsafe_alone n e u = ([], subst (λ m. IsTail C from m []) (sym e) (empty_tail C from), λ s. u (subst (λ L. IsSafe C (either K L)) (append-nil chosen) s))

  -- the chosen sites and one more
  pub unsafe_with : (n site : ℕ) (W : Sites) → W ≡ chosen ++ site ∷ [] → from ≤ site → site ≤ C.sites → 1 ≤ n → HasUnsafeTail C K W (site + 1) (n - 1) → HasUnsafeTail C K chosen from n
  unsafe_with n site W is low high one (T, t, u) =
      (site ∷ T, tail_cons C from n site T low high one t, λ s. u (subst (λ L. IsSafe C (either K L)) (sym (ap (λ V. V ++ T) is ∙ then_joined chosen site T)) s))

  pub safe_with_site : (n site : ℕ) (W : Sites) → W ≡ chosen ++ site ∷ [] → AreTailsSafe C K W (site + 1) n → (T : Sites) → IsTail C (site + 1) n T → IsSafe C (either K (chosen ++ site ∷ T))
  safe_with_site n site W is f T t = subst (λ L. IsSafe C (either K L)) (ap (λ V. V ++ T) is ∙ then_joined chosen site T) (f T t)

  pub all_safe : (n end : ℕ) → 1 ≤ n → C.sites + 1 ≤ end → ((x : ℕ) (T : Sites) → from ≤ x → x < end → IsTail C (x + 1) (n - 1) T → IsSafe C (either K (chosen ++ x ∷ T))) → AreTailsSafe C K chosen from n
  all_safe n end one h f [] t = let e = t.size in absurd (omega (arith, e))
  all_safe n end one h f (x ∷ T) t = let b = head_high C from n x T t in f x T (head_low C from n x T t) (omega (arith, b)) (tail_rest C from n x T t)

-- ---- all sites

-- the sites from one on
all_from : (C : CatalogData) (k from : ℕ) → from + k ≡ C.sites + 1 → IsTail C from k (range_with_len from k)
all_from C zero from e = empty_tail C from
all_from C (suc k) from e =
    tail_cons C from (suc k) from (range_with_len (from + 1) k) (omega arith) (omega arith) (omega arith)
    (subst (λ n. IsTail C (from + 1) n (range_with_len (from + 1) k)) (omega arith) (all_from C k (from + 1) (omega arith)))

pub all_sites_tail : (C : CatalogData) → IsTail C 1 C.sites (range_with_len 1 C.sites)
all_sites_tail C = all_from C C.sites 1 (omega arith)

pub in_all_sites : (C : CatalogData) (x : ℕ) → 1 ≤ x → x ≤ C.sites → IsTrue (member (range_with_len 1 C.sites) x)
in_all_sites C x l h = in_member (range_with_len 1 C.sites) x (range_in 1 C.sites x l (omega arith))

module _ (C : CatalogData) (cat : IsCatalog C) (L : Sites) (all : (x : ℕ) → 1 ≤ x → x ≤ C.sites → IsTrue (member L x)) where
  lost_each : (p s : ℕ) → p < length C.projections → s < segments C p → lost C L p s ≡ true
  lost_each p s h k =
      let P = cat.projections p h in
      let size = P.sites in
      let r = P.site_range (slice_index (projection C p).sites s) (member_at (projection C p).sites s 0 (omega (arith, k, size))) in
      all (slice_index (projection C p).sites s) r.0 r.1

  all_lost_by : (rule : Safety) → ¬ IsSafeBy rule C L
  all_lost_by Safety.Whole (a, s) =
      let kept = alive_kept C cat L a s.exists s.may_start 0 (omega arith) in
      false≢true (sym kept ∙ lost_each a 0 s.exists (omega arith))
  all_lost_by Safety.Rows f =
      let row = some_row C in
      let x = f row.0 row.1 in
      not_lost (lost C L x.0 (segment_of_row C x.0 row.0)) (lost_each x.0 (segment_of_row C x.0 row.0) x.1.exists (segment_below C x.0 row.0)) x.1.may_start
    where
      not_lost : (b : Bool) → b ≡ true → not b ≡ true → ⊥
      not_lost true e n = false≢true n
      not_lost false e n = false≢true e

  pub all_lost_is_unsafe : ¬ IsSafe C L
  all_lost_is_unsafe = all_lost_by C.safety
