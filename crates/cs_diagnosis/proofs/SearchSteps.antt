-- The search, one loss after the other: it has found what explains the losses that were tried so far.
use Rattle.std.proofs.Common.{◌≡◌, ℕ, ◌+◌, ◌<◌, ◌≤◌, List, [], ◌∷◌, ◌++◌, length, refl, sym, ap, subst, ◌∙◌, arith, inl, inr, ◌⊎◌, Some, None}
use Rattle.std.proofs.lemmas.Bool.{cases_lt, cases_eq}
use Rattle.std.proofs.lemmas.Option.{same_Some, slice_get_within}
use Rattle.std.specs.List.{slice_get}
use Rattle.std.specs.List.Sorted.{IsStrictlySortedBy}
use Rattle.std.specs.declared.cmp.Ordering.TheVariants.{Less}
use Rattle.cs_schema.specs.Lists.{IsIn}
use Rattle.cs_schema.specs.CatalogData.{CatalogData}
use Rattle.cs_schema.specs.Losses.{Sites, IsLoss, loss_cmp}
use Rattle.cs_schema.specs.Rows.{Row}
use Rattle.cs_schema.proofs.Lists.{in_at, at_in, append_left, append_right, in_append}
use Rattle.cs_schema.proofs.Surviving.{append_sorted}
use Rattle.cs_safety.specs.Safety.{IsSafe}
use Rattle.cs_diagnosis.specs.declared.findings.Explanation.{Explanation}
use Rattle.cs_diagnosis.specs.declared.search.Findings.{Findings}
use Rattle.cs_safety.specs.Within.{IsWithin}
use Rattle.cs_diagnosis.specs.Explanations.{IsAccepted, IsLeastAccepted, AreForced}
use Rattle.cs_diagnosis.specs.Findings.{IsTableAt, IsExplained, AreExplanations}
use Rattle.cs_design.specs.Order.{AreAllLosses}
use Rattle.cs_diagnosis.specs.Tried.{IsTried, IsRuledOut}
use Rattle.cs_design.proofs.Items.{sorted_at, kept_at, last_at, kept_or_last}
use Rattle.cs_design.proofs.SmallerLosses.{within_size, same_loss, earlier_size}

-- what was found after the losses below an index were tried
pub record IsSearched {X : Type 0} (C : CatalogData) (held : Sites → List Row → Type 0) (rows : X → List Row) (losses : List Sites) (i : ℕ) (found : List Explanation) (tables : List X) : Type 0 where
  pub each : (e : Explanation) → IsIn e found → ((k : ℕ) × (k < i) × (slice_get losses k ≡ Some e.loss)) × ((T : List Row) × IsTableAt rows tables e.table T × IsLeastAccepted C held e.loss T)
  pub complete : (k : ℕ) (L : Sites) (T : List Row) → k < i → slice_get losses k ≡ Some L → IsAccepted C held L T → IsExplained found L
  pub in_order : IsStrictlySortedBy (λ e f. loss_cmp e.loss f.loss) found
  pub apart : (m n : ℕ) (T : List Row) → IsTableAt rows tables m T → IsTableAt rows tables n T → m ≡ n
  pub used : (n : ℕ) (T : List Row) → IsTableAt rows tables n T → (e : Explanation) × IsIn e found × (e.table ≡ n)

none_at : {X : Type 0} {A : Type 0} (t : X) → None ≡ Some t → A
none_at t e = absurd (cc e)

module _ {X : Type 0} (C : CatalogData) (held : Sites → List Row → Type 0) (rows : X → List Row) (losses : List Sites) where
  pub begin : IsSearched C held rows losses 0 [] []
  unfolding IsStrictlySortedBy
  begin = record {
    each = λ e h. absurd h;
    complete = λ k L T h. absurd (omega arith);
    in_order = tt;
    apart = λ m n T a b. none_at a.0 a.1;
    used = λ n T a. none_at a.0 a.1;
  }

  module _ (i : ℕ) (found : List Explanation) (tables : List X) (s : IsSearched C held rows losses i found tables) (L : Sites) (at : slice_get losses i ≡ Some L) where
    -- a loss that is not accepted, or is explained, adds nothing
    pub skip : ((T : List Row) → IsAccepted C held L T → IsExplained found L) → IsSearched C held rows losses (i + 1) found tables
    skip f = record {
      each = λ e h. let a = s.each e h in ((a.0.0, (let l = a.0.1 in omega (arith, l)), a.0.2), a.1);
      complete = λ k M T h g a. elim (cases_lt k i) [
        | inl l ↦ s.complete k M T l g a
        | inr l ↦ (let same : i ≡ k = omega arith in
            let e : L ≡ M = same_Some L M (sym at ∙ ap (slice_get losses) same ∙ g) in
            subst (IsExplained found) e (f T (subst (λ V. IsAccepted C held V T) (sym e) a)))
      ];
      in_order = s.in_order;
      apart = s.apart;
      used = s.used;
    }

    -- an accepted loss that is not explained is an explanation
    pub least : (at_most : ℕ) → AreAllLosses C at_most losses → (T : List Row) → IsAccepted C held L T → ¬ IsExplained found L → IsLeastAccepted C held L T
    least at_most all T a new = record {
      accepted = a;
      least = λ M U b w.
          let few = ((all.members L).0 in_losses).1 in
          let size = within_size M L b.loss.0 a.loss.0 w in
          let place = at_in losses M ((all.members M).1 (b.loss, omega (arith, few, size))) in
          from_place M U b w place.0 place.1;
    }
      where
        in_losses : IsIn L losses
        in_losses = in_at losses i L at

        later : (M : Sites) (U : List Row) → IsAccepted C held M U → IsWithin M L → (j : ℕ) → slice_get losses j ≡ Some M → i < j → M ≡ L
        later M U b w j p l = same_loss M L b.loss.0 a.loss.0 w (earlier_size L M (sorted_at loss_cmp losses i j L M all.in_order l at p))

        from_place : (M : Sites) (U : List Row) → IsAccepted C held M U → IsWithin M L → (j : ℕ) → slice_get losses j ≡ Some M → M ≡ L
        from_place M U b w j p = elim (cases_lt j i) [
          | inl l ↦ (let e = s.complete j M U l p b in absurd (new (e.0, e.1, λ x m. w x (e.2 x m))))
          | inr l ↦ elim (cases_eq i j) [
            | inl same ↦ same_Some M L (sym p ∙ ap (slice_get losses) (sym same) ∙ at)
            | inr apart ↦ later M U b w j p (omega arith)
          ]
        ]

    -- an explanation is added, with its table
    pub add : IsStrictlySortedBy loss_cmp losses → (n : ℕ) (T : List Row) (more : List X) → IsLeastAccepted C held L T
        → ((m : ℕ) (U : List Row) → IsTableAt rows tables m U → IsTableAt rows more m U) → IsTableAt rows more n T
        → ((m k : ℕ) (U : List Row) → IsTableAt rows more m U → IsTableAt rows more k U → m ≡ k) → ((m : ℕ) (U : List Row) → IsTableAt rows more m U → IsTableAt rows tables m U ⊎ (m ≡ n))
        → IsSearched C held rows losses (i + 1) (found ++ (record { loss = L; table = n }) ∷ []) more
    unfolding IsStrictlySortedBy
    add sorted n T more l keep here apart used = record {
      each = λ e h. each e (in_append found (new ∷ []) e h);
      complete = λ k M U h g a. elim (cases_lt k i) [
        | inl b ↦ (let e = s.complete k M U b g a in (e.0, append_left found (new ∷ []) e.0 e.1, e.2))
        | inr b ↦ (let same : i ≡ k = omega arith in
            let e : L ≡ M = same_Some L M (sym at ∙ ap (slice_get losses) same ∙ g) in
            (new, append_right found (new ∷ []) new (inl refl), subst (IsWithin L) e (λ x m. m)))
      ];
      in_order = append_sorted (λ (e f : Explanation). loss_cmp e.loss f.loss) found (new ∷ []) s.in_order (tt, tt) (λ e f h k. below e f h k);
      apart = apart;
      used = λ m U t. used_by m U (used m U t);
    }
      where
        new : Explanation
        new = record { loss = L; table = n }

        IsOf : Explanation → Type 0
        IsOf e = ((k : ℕ) × (k < i + 1) × (slice_get losses k ≡ Some e.loss)) × ((U : List Row) × IsTableAt rows more e.table U × IsLeastAccepted C held e.loss U)

        each : (e : Explanation) → IsIn e found ⊎ IsIn e (new ∷ []) → IsOf e
        each e (inl h) = let a = s.each e h in ((a.0.0, (let b = a.0.1 in omega (arith, b)), a.0.2), (a.1.0, keep e.table a.1.0 a.1.1, a.1.2))
        each e (inr (inl h)) = subst IsOf (sym h) ((i, omega arith, at), (T, here, l))
        each e (inr (inr h)) = absurd h

        below : (e f : Explanation) → IsIn e found → IsIn f (new ∷ []) → loss_cmp e.loss f.loss ≡ Less
        below e f h (inl k) = let a = s.each e h in subst (λ (x : Explanation). loss_cmp e.loss x.loss ≡ Less) (sym k) (sorted_at loss_cmp losses a.0.0 i e.loss L sorted a.0.1 a.0.2 at)
        below e f h (inr k) = absurd k

        used_by : (m : ℕ) (U : List Row) → IsTableAt rows tables m U ⊎ (m ≡ n) → (e : Explanation) × IsIn e (found ++ new ∷ []) × (e.table ≡ m)
        used_by m U (inl t) = let e = s.used m U t in (e.0, append_left found (new ∷ []) e.0 e.1, e.2)
        used_by m U (inr e) = (new, append_right found (new ∷ []) new (inl refl), sym e)

    -- one loss was tried
    module _ (at_most : ℕ) (all : AreAllLosses C at_most losses) (loss : IsLoss C L) (safe : IsSafe C L) (unexplained : ¬ IsExplained found L) where
      explains : (T : List Row) → held L T → IsLeastAccepted C held L T
      explains T h = least at_most all T (record { loss = loss; safe = safe; holds = h }) unexplained

      none_held : ((T : List Row) → ¬ held L T) → IsSearched C held rows losses (i + 1) found tables
      none_held f = skip (λ T a. absurd (f T a.holds))

      known : (n : ℕ) (T : List Row) → IsTableAt rows tables n T → held L T → IsSearched C held rows losses (i + 1) (found ++ (record { loss = L; table = n }) ∷ []) tables
      known n T t h = add all.in_order n T tables (explains T h) (λ m U u. u) t s.apart (λ m U u. inl u)

      found_new : (t : X) → ((n : ℕ) (T : List Row) → IsTableAt rows tables n T → ¬ held L T) → held L (rows t)
          → IsSearched C held rows losses (i + 1) (found ++ (record { loss = L; table = length tables }) ∷ []) (tables ++ t ∷ [])
      found_new t f h = add all.in_order (length tables) (rows t) (tables ++ t ∷ []) (explains (rows t) h) (λ m U u. (u.0, kept_at tables t m u.0 u.1, u.2)) (t, last_at tables t, refl) apart (λ m U u. or_last m U u)
        where
          or_last : (m : ℕ) (U : List Row) → IsTableAt rows (tables ++ t ∷ []) m U → IsTableAt rows tables m U ⊎ (m ≡ length tables)
          or_last m U u = elim (kept_or_last tables t m u.0 u.1) [ inl k ↦ inl (u.0, k, u.2) | inr k ↦ inr k.0 ]

          its_rows : (m : ℕ) (U : List Row) → IsTableAt rows (tables ++ t ∷ []) m U → IsTableAt rows tables m U ⊎ ((m ≡ length tables) × held L U)
          its_rows m U u = elim (kept_or_last tables t m u.0 u.1) [ inl k ↦ inl (u.0, k, u.2) | inr k ↦ inr (k.0, subst (held L) (ap rows (sym k.1) ∙ u.2) h) ]

          both : (m k : ℕ) (U : List Row) → IsTableAt rows tables m U ⊎ ((m ≡ length tables) × held L U) → IsTableAt rows tables k U ⊎ ((k ≡ length tables) × held L U) → m ≡ k
          both m k U (inl a) (inl b) = s.apart m k U a b
          both m k U (inl a) (inr b) = absurd (f m U a b.1)
          both m k U (inr a) (inl b) = absurd (f k U b a.1)
          both m k U (inr a) (inr b) = a.0 ∙ sym b.0

          apart : (m k : ℕ) (U : List Row) → IsTableAt rows (tables ++ t ∷ []) m U → IsTableAt rows (tables ++ t ∷ []) k U → m ≡ k
          apart m k U u v = both m k U (its_rows m U u) (its_rows k U v)

      at_lists : (new : Findings X) {es : List Explanation} {ts : List X} → new.explanations.items ≡ es → new.tables.items ≡ ts → IsSearched C held rows losses (i + 1) es ts → IsSearched C held rows losses (i + 1) new.explanations.items new.tables.items
      at_lists new {es} {ts} a b h = subst (λ xs. IsSearched C held rows losses (i + 1) xs new.tables.items) (sym a) (subst (λ ys. IsSearched C held rows losses (i + 1) es ys) (sym b) h)

      pub tried : (old new : Findings X) → found ≡ old.explanations.items → tables ≡ old.tables.items → IsTried (held L) rows L old new → IsSearched C held rows losses (i + 1) new.explanations.items new.tables.items
      tried old new e u (IsTried.none f a b) = at_lists new (a ∙ sym e) (b ∙ sym u) (none_held f)
      tried old new e u (IsTried.known n T t h a b) =
          at_lists new (a ∙ ap (λ es. es ++ (record { loss = L; table = n }) ∷ []) (sym e)) (b ∙ sym u) (known n T (subst (λ ts. IsTableAt rows ts n T) (sym u) t) h)
      tried old new e u (IsTried.new_table t f h a b) =
          at_lists new (a ∙ ap (λ es. es ++ (record { loss = L; table = length old.tables.items }) ∷ []) (sym e) ∙ ap (λ ts. found ++ (record { loss = L; table = length ts }) ∷ []) (sym u)) (b ∙ ap (λ ts. ts ++ t ∷ []) (sym u))
          (found_new t (λ n T at h. f n T (subst (λ ts. IsTableAt rows ts n T) u at) h) h)

    -- one loss was ruled out
    pub ruled_out : (forced : Sites) → AreForced C held forced → IsRuledOut C forced found L → IsSearched C held rows losses (i + 1) found tables
    ruled_out forced f (IsRuledOut.not_forced n) = skip (λ T a. absurd (n (f L T a)))
    ruled_out forced f (IsRuledOut.explained e) = skip (λ T a. e)
    ruled_out forced f (IsRuledOut.unsafe n) = skip (λ T a. absurd (n a.safe))

  -- all losses were tried
  pub finish : (i : ℕ) (found : List Explanation) (tables : List X) → IsSearched C held rows losses i found tables → (at_most : ℕ) → AreAllLosses C at_most losses → length losses ≤ i → AreExplanations C held at_most rows found tables
  finish i found tables s at_most all end = record {
    each = λ e h. let a = s.each e h in (((all.members e.loss).0 (in_at losses a.0.0 e.loss a.0.2)).1, a.1);
    all = λ L T l few. let x = complete L T l.accepted few in let a = s.each x.0 x.1 in (x.0, x.1, l.least x.0.loss a.1.0 a.1.2.accepted x.2);
    complete = complete;
    in_order = s.in_order;
    apart = s.apart;
    used = s.used;
  }
    where
      complete : (L : Sites) (T : List Row) → IsAccepted C held L T → length L ≤ at_most → IsExplained found L
      complete L T a few =
          let place = at_in losses L ((all.members L).1 (a.loss, few)) in
          let low = slice_get_within losses place.0 L place.1 in
          s.complete place.0 L T (omega (arith, low, end)) place.1 a
