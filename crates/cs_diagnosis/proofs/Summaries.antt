-- The verdict that the program reads off the explanations is the one that they amount to.
use Rattle.std.proofs.Common.{◌≡◌, ℕ, ◌<◌, ◌≤◌, ◌==◌, Bool, true, false, cond, List, [], ◌∷◌, length, refl, sym, ap, subst, ◌∙◌, arith, inl, inr, Some, eqb-true, eq-eqb}
use Rattle.std.proofs.lemmas.Option.{same_Some, slice_get_within, slice_get-get_or}
use Rattle.std.proofs.Common.{get_or}
use Rattle.std.specs.List.{slice_get}
use Rattle.std.specs.List.Sorted.{IsStrictlySortedBy}
use Rattle.std.specs.declared.cmp.Ordering.TheVariants.{Less}
use Rattle.cs_schema.specs.Lists.{IsIn}
use Rattle.cs_schema.specs.CatalogData.{CatalogData}
use Rattle.cs_schema.specs.Losses.{Sites, loss_cmp}
use Rattle.cs_schema.specs.Rows.{Row}
use Rattle.cs_schema.proofs.Ascending.{All-in, false≢true}
use Rattle.cs_schema.proofs.Lists.{in_member}
use Rattle.cs_diagnosis.specs.declared.findings.Explanation.{Explanation}
use Rattle.cs_diagnosis.specs.declared.findings.Verdict.{Verdict}
use Rattle.cs_safety.specs.Within.{IsWithin}
use Rattle.cs_diagnosis.specs.Explanations.{IsAccepted, IsLeastAccepted, HaveOneTable, AcceptanceGrows}
use Rattle.cs_diagnosis.specs.Findings.{IsTableAt, AreExplanations, IsVerdict}
use Rattle.cs_diagnosis.specs.Summary.{verdict_for}
use Rattle.cs_design.proofs.SmallerLosses.{earlier_size}

no_sites : (L : Sites) → length L ≡ 0 → L ≡ []
no_sites [] e = refl
no_sites (x ∷ L) e = absurd (omega (arith, e))

within_none : (L : Sites) → IsWithin L [] → length L ≡ 0
within_none [] w = refl
within_none (x ∷ L) w = false≢true (w x (in_member (x ∷ L) x (inl refl)))

first_fewest : (e : Explanation) (es : List Explanation) → IsStrictlySortedBy (λ (a b : Explanation). loss_cmp a.loss b.loss) (e ∷ es) → (f : Explanation) → IsIn f (e ∷ es) → length e.loss ≤ length f.loss
unfolding IsStrictlySortedBy
first_fewest e es s f (inl h) = let l : length e.loss ≡ length f.loss = ap (λ (a : Explanation). length a.loss) (sym h) in omega (arith, l)
first_fewest e es s f (inr h) = earlier_size e.loss f.loss (All-in (λ (b : Explanation). loss_cmp e.loss b.loss ≡ Less) es s.0 f h)

module _ {X : Type 0} (C : CatalogData) (held : Sites → List Row → Type 0) (at_most : ℕ) (rows : X → List Row) (tables : List X) (one : HaveOneTable C held) (grows : AcceptanceGrows C held) where
  none_found : AreExplanations C held at_most rows [] tables → IsVerdict C held at_most Verdict.NotRecoverable
  none_found a = IsVerdict.not_recoverable (λ L T h few. (a.complete L T h few).1) refl

  module _ (e : Explanation) (es : List Explanation) (a : AreExplanations C held at_most rows (e ∷ es) tables) where
    of_first : (T : List Row) × IsTableAt rows tables e.table T × IsLeastAccepted C held e.loss T
    of_first = (a.each e (inl refl)).1

    few_first : length e.loss ≤ at_most
    few_first = (a.each e (inl refl)).0

    nothing_lost : length e.loss ≡ 0 → IsVerdict C held at_most Verdict.Sound
    nothing_lost z = IsVerdict.sound of_first.0 (subst (λ L. IsAccepted C held L of_first.0) (no_sites e.loss z) of_first.2.accepted) refl

    module _ (some : length e.loss ≡ 0 → ⊥) where
      not_sound : (U : List Row) → ¬ IsAccepted C held [] U
      not_sound U h =
          let x = a.complete [] U h (omega arith) in
          let z = within_none x.0.loss x.2 in
          let l = first_fewest e es a.in_order x.0 x.1 in
          some (omega (arith, z, l))

      -- the indices of tables are below their number
      place_low : (n : ℕ) (T : List Row) → IsTableAt rows tables n T → n < length tables
      place_low n T t = slice_get_within tables n t.0 t.1

      all_one : length tables ≡ 1 → (M : Sites) (U : List Row) → IsAccepted C held M U → length M ≤ at_most → U ≡ of_first.0
      all_one n M U h few =
          let x = a.complete M U h few in
          let f = (a.each x.0 x.1).1 in
          let low = place_low e.table of_first.0 of_first.1 in
          let low' = place_low x.0.table f.0 f.1 in
          let same : x.0.table ≡ e.table = omega (arith, low, low', n) in
          let t : f.1.0 ≡ of_first.1.0 = same_Some f.1.0 of_first.1.0 (sym f.1.1 ∙ ap (slice_get tables) same ∙ of_first.1.1) in
          let grown = grows x.0.loss M f.0 f.2.accepted x.2 h.loss h.safe in
          one M U f.0 h grown ∙ sym f.1.2 ∙ ap rows t ∙ of_first.1.2

      one_found : length tables ≡ 1 → IsVerdict C held at_most Verdict.OneTable
      one_found n = IsVerdict.one_table e.loss of_first.0 not_sound of_first.2 few_first (all_one n) refl

      -- the explanation of the n-th table
      module _ (n : ℕ) (t : X) (at : slice_get tables n ≡ Some t) where
        user : (f : Explanation) × IsIn f (e ∷ es) × (f.table ≡ n)
        user = a.used n (rows t) (t, at, refl)

        user_least : IsLeastAccepted C held user.0.loss (rows t) × (length user.0.loss ≤ at_most)
        user_least =
            let f = a.each user.0 user.1 in
            let same : f.1.1.0 ≡ t = same_Some f.1.1.0 t (sym f.1.1.1 ∙ ap (slice_get tables) user.2 ∙ at) in
            (subst (IsLeastAccepted C held user.0.loss) (sym f.1.1.2 ∙ ap rows same) f.1.2, f.0)

      two : (t u : X) → slice_get tables 0 ≡ Some t → slice_get tables 1 ≡ Some u → IsVerdict C held at_most Verdict.Ambiguous
      two t u g h =
          let p = user_least 0 t g in
          let q = user_least 1 u h in
          IsVerdict.ambiguous (user 0 t g).0.loss (user 1 u h).0.loss (rows t) (rows u) p.0 q.0 p.1 q.1
          (λ w. let z : 0 ≡ 1 = a.apart 0 1 (rows u) (t, g, w) (u, h, refl) in omega (arith, z)) refl

      two_found : (length tables ≡ 1 → ⊥) → IsVerdict C held at_most Verdict.Ambiguous
      two_found n =
          let t = of_first.1.0 in
          let low = place_low e.table of_first.0 of_first.1 in
          two (get_or tables 0 t) (get_or tables 1 t) (slice_get-get_or tables 0 t (omega (arith, low))) (slice_get-get_or tables 1 t (omega (arith, low, n)))

  pub is_verdict : (found : List Explanation) → AreExplanations C held at_most rows found tables → IsVerdict C held at_most (verdict_for found (length tables))
  is_verdict [] a = none_found a
  is_verdict (e ∷ es) a = by_size (length e.loss == 0) refl
    where
      by_tables : (length e.loss ≡ 0 → ⊥) → (b : Bool) → (length tables == 1) ≡ b → IsVerdict C held at_most (cond b Verdict.OneTable Verdict.Ambiguous)
      by_tables some true k = one_found e es a some (eqb-true (length tables) 1 k)
      by_tables some false k = two_found e es a some (λ w. false≢true (sym k ∙ eq-eqb (length tables) 1 w))

      by_size : (b : Bool) → (length e.loss == 0) ≡ b → IsVerdict C held at_most (cond b Verdict.Sound (cond (length tables == 1) Verdict.OneTable Verdict.Ambiguous))
      by_size true k = nothing_lost e es a (eqb-true (length e.loss) 0 k)
      by_size false k = by_tables (λ w. false≢true (sym k ∙ eq-eqb (length e.loss) 0 w)) (length tables == 1) refl
