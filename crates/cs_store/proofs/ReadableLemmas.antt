-- How a load that goes on after failed reads goes on from one read to the next.
use Rattle.std.proofs.Common.{inl, inr, ◌≡◌, ◌≢◌, ◌⊎◌, ℕ, ◌+◌, ◌<◌, ◌≤◌, suc, true, false, Bool, List, [], ◌∷◌, ◌++◌, length, take, drop, Option, Some, None, cond, get_or, refl, subst, sym, ap, ◌∙◌, append_assoc, arith, Result, Ok, Err, OnErr, MatchOption}
use Rattle.std.proofs.Math.Seq.{drop-cons, take-length}
use Rattle.std.specs.Global.{Vec}
use Rattle.std.specs.Option.{option_map}
use Rattle.std.proofs.lemmas.List.{take_more, take-append-drop}
use Rattle.std.specs.FinMap.{entries, insert, put, find, entries-insert, get-entries}
use Rattle.std.specs.List.{AllByRecursion}
use Rattle.std.specs.List.Sorted.{IsStrictlySortedBy}
use Rattle.std.specs.Ordering.{is_eq, ordering_reverse}
use Rattle.std.specs.declared.cmp.Ordering.TheVariants.{Less, Equal}
use Rattle.cs_schema.specs.FileNames.{name_cmp}
use Rattle.cs_schema.specs.NameOrder.{name_cmp_total}
use Rattle.cs_schema.specs.declared.file_name.FileName.{FileName}
use Rattle.cs_store.specs.Fault.{CountsFault}
use Rattle.cs_store.specs.FileSet.{Files, contents_of}
use Rattle.cs_store.proofs.FileSetLemmas.{put_last}
use Rattle.cs_store.proofs.LoadLemmas.{below_before}
use Rattle.cs_store.specs.LoadReadable.{Outcome, gave, failed, Outcomes, attempted, found, failures, Attempted, AttemptsInTurn, Adds, Attempts, StopsAttempt, AttemptsSome, LoadsReadable}
use Rattle.cs_store.specs.declared.fault.StoreFault.{StoreFault}
use Rattle.cs_store.specs.declared.fault.StoreFault.TheVariants.{Memory}

-- ---- one more read

attempted-push : (outcomes : Outcomes) (a : FileName × Outcome) → attempted (outcomes ++ a ∷ []) ≡ attempted outcomes ++ a.0 ∷ []
attempted-push [] a = refl
attempted-push (b ∷ rest) a = ap (λ l. b.0 ∷ l) (attempted-push rest a)

found-push : (outcomes : Outcomes) (a : FileName × Outcome) → found (outcomes ++ a ∷ []) ≡ found outcomes ++ found (a ∷ [])
found-push [] a = refl
found-push ((m, gave None) ∷ rest) a = found-push rest a
found-push ((m, gave (Some bytes)) ∷ rest) a = ap (λ l. (m, bytes) ∷ l) (found-push rest a)
found-push ((m, failed) ∷ rest) a = found-push rest a

failures-push : (outcomes : Outcomes) (a : FileName × Outcome) → failures (outcomes ++ a ∷ []) ≡ failures outcomes ++ failures (a ∷ [])
failures-push [] a = refl
failures-push ((m, gave None) ∷ rest) a = failures-push rest a
failures-push ((m, gave (Some bytes)) ∷ rest) a = failures-push rest a
failures-push ((m, failed) ∷ rest) a = ap (λ l. m ∷ l) (failures-push rest a)

append-none : {A : Type 0} (xs : List A) → xs ++ [] ≡ xs
append-none [] = refl
append-none (x ∷ xs) = ap (λ l. x ∷ l) (append-none xs)

below_found : (outcomes : Outcomes) (n : FileName) → AllByRecursion (λ m. name_cmp m n ≡ Less) (attempted outcomes) → AllByRecursion (λ e. name_cmp e.0 n ≡ Less) (found outcomes)
below_found [] n h = tt
below_found ((m, gave None) ∷ rest) n h = below_found rest n h.1
below_found ((m, gave (Some bytes)) ∷ rest) n h = (h.0, below_found rest n h.1)
below_found ((m, failed) ∷ rest) n h = below_found rest n h.1

-- the files after one more read, in a list of ascending names
files_more : (outcomes : Outcomes) (n : FileName) (outcome : Outcome) (files now : Files) (unreadable after : List FileName) → AllByRecursion (λ m. name_cmp m n ≡ Less) (attempted outcomes) → entries files ≡ found outcomes → Adds n outcome files unreadable now after → entries now ≡ found (outcomes ++ (n, outcome) ∷ [])
files_more outcomes n (gave None) files now unreadable after below same added = ap entries added.0 ∙ same ∙ sym (found-push outcomes (n, gave None) ∙ append-none (found outcomes))
files_more outcomes n (gave (Some bytes)) files now unreadable after below same added =
    ap entries added.0 ∙ entries-insert name_cmp_total files n bytes ∙ ap (put name_cmp n bytes) same ∙ put_last (found outcomes) n bytes (below_found outcomes n below) ∙ sym (found-push outcomes (n, gave (Some bytes)))
files_more outcomes n failed files now unreadable after below same added = ap entries added.0 ∙ same ∙ sym (found-push outcomes (n, failed) ∙ append-none (found outcomes))

unreadable_more : (outcomes : Outcomes) (n : FileName) (outcome : Outcome) (files now : Files) (unreadable after : List FileName) → unreadable ≡ failures outcomes → Adds n outcome files unreadable now after → after ≡ failures (outcomes ++ (n, outcome) ∷ [])
unreadable_more outcomes n (gave None) files now unreadable after same added = added.1 ∙ same ∙ sym (failures-push outcomes (n, gave None) ∙ append-none (failures outcomes))
unreadable_more outcomes n (gave (Some bytes)) files now unreadable after same added = added.1 ∙ same ∙ sym (failures-push outcomes (n, gave (Some bytes)) ∙ append-none (failures outcomes))
unreadable_more outcomes n failed files now unreadable after same added = added.1 ∙ ap (λ l. l ++ n ∷ []) same ∙ sym (failures-push outcomes (n, failed))

counts_more : (before here after : ℕ) → CountsFault before here → here ≤ after → CountsFault before after
counts_more before here after (inl less) more = inl (omega arith)
counts_more before here after (inr last) more = inr last

counts_later : (before here after : ℕ) → before ≤ here → CountsFault here after → here ≤ after → CountsFault before after
counts_later before here after le counts more = grind arith

pub on_err : {A E : Type 0} (r : Result A E) (P : Type 0) → P → OnErr r P
on_err (Ok x) P p = tt
on_err (Err e) P p = p

-- ---- what stands in the two lists at the end

below_failures : (P : FileName → Type 0) (outcomes : Outcomes) → AllByRecursion P (attempted outcomes) → AllByRecursion P (failures outcomes)
below_failures P [] h = tt
below_failures P ((m, gave file) ∷ rest) h = below_failures P rest h.1
below_failures P ((m, failed) ∷ rest) h = (h.0, below_failures P rest h.1)

pub failures_sorted : (outcomes : Outcomes) → IsStrictlySortedBy name_cmp (attempted outcomes) → IsStrictlySortedBy name_cmp (failures outcomes)
unfolding IsStrictlySortedBy
failures_sorted [] h = tt
failures_sorted ((m, gave file) ∷ rest) h = failures_sorted rest h.1
failures_sorted ((m, failed) ∷ rest) h = (below_failures (λ x. name_cmp m x ≡ Less) rest h.0, failures_sorted rest h.1)

-- a name below all that were read is not among the files
find_absent : (m : FileName) (outcomes : Outcomes) → AllByRecursion (λ x. name_cmp m x ≡ Less) (attempted outcomes) → find name_cmp m (found outcomes) ≡ None
find_absent m [] h = refl
find_absent m ((x, gave None) ∷ rest) h = find_absent m rest h.1
find_absent m ((x, gave (Some bytes)) ∷ rest) h = ap (λ o. cond (is_eq o) (Some bytes) (find name_cmp m (found rest))) h.0 ∙ find_absent m rest h.1
find_absent m ((x, failed) ∷ rest) h = find_absent m rest h.1

all_both : (P Q R : FileName → Type 0) (xs : List FileName) → ((x : FileName) → P x → Q x → R x) → AllByRecursion P xs → AllByRecursion Q xs → AllByRecursion R xs
all_both P Q R [] f p q = tt
all_both P Q R (x ∷ xs) f p q = (f x p.0 q.0, all_both P Q R xs f p.1 q.1)

failures_absent : (outcomes : Outcomes) → IsStrictlySortedBy name_cmp (attempted outcomes) → AllByRecursion (λ q. find name_cmp q (found outcomes) ≡ None) (failures outcomes)
unfolding IsStrictlySortedBy
failures_absent [] h = tt
failures_absent ((m, gave None) ∷ rest) h = failures_absent rest h.1
failures_absent ((m, gave (Some bytes)) ∷ rest) h =
    all_both (λ q. name_cmp m q ≡ Less) (λ q. find name_cmp q (found rest) ≡ None) (λ q. find name_cmp q ((m, bytes) ∷ found rest) ≡ None) (failures rest)
    (λ q below absent. ap (λ o. cond (is_eq o) (Some bytes) (find name_cmp q (found rest))) (name_cmp_total.antisymm q m ∙ ap ordering_reverse below) ∙ absent)
    (below_failures (λ q. name_cmp m q ≡ Less) rest h.0) (failures_absent rest h.1)
failures_absent ((m, failed) ∷ rest) h = (find_absent m rest h.0, failures_absent rest h.1)

all_along : (P Q : FileName → Type 0) (xs : List FileName) → ((x : FileName) → P x → Q x) → AllByRecursion P xs → AllByRecursion Q xs
all_along P Q [] f p = tt
all_along P Q (x ∷ xs) f p = (f x p.0, all_along P Q xs f p.1)

module _ {S : Type 0} (gives : S → FileName → Option (List ℕ) → S → Type 0) (refuses : S → FileName → StoreFault → S → Type 0) where
  AttemptsInTurn-push : (s : S) (outcomes : Outcomes) (u : S) (a : FileName × Outcome) (t : S) → AttemptsInTurn gives refuses s outcomes u → Attempted gives refuses u a.0 a.1 t → AttemptsInTurn gives refuses s (outcomes ++ a ∷ []) t
  AttemptsInTurn-push s [] u a t same here = (t, subst (λ v. Attempted gives refuses v a.0 a.1 t) same here, refl)
  AttemptsInTurn-push s (b ∷ rest) u a t run here = (run.0, run.1, AttemptsInTurn-push run.0 rest u a t run.2 here)

  -- a read that answered, and what it gave was kept
  pub attempt_gave : (count : S → ℕ) (s : S) (n : FileName) (files now : Files) (unreadable : List FileName) (t : S) (file : Option (Vec ℕ)) → MatchOption file (now ≡ files) (λ bytes. now ≡ insert files n bytes.items) → gives s n (option_map (λ bytes. bytes.items) file) t → Attempts gives refuses count s n files unreadable now unreadable t
  attempt_gave count s n files now unreadable t None kept given = record { outcome = gave None; attempt = given; added = (kept, refl); counts = λ e. absurd cc }
  attempt_gave count s n files now unreadable t (Some bytes) kept given = record { outcome = gave (Some bytes.items); attempt = given; added = (kept, refl); counts = λ e. absurd cc }

  -- the first i names were read, the lists are what that came to, and no fault was forgotten
  pub record AttemptedSoFar (count : S → ℕ) (names : List FileName) (i : ℕ) (s : S) (files : Files) (unreadable : List FileName) (t : S) : Type 0 where
    pub outcomes : Outcomes
    pub in_order : attempted outcomes ≡ take i names
    pub in_turn : AttemptsInTurn gives refuses s outcomes t
    pub just_these : entries files ≡ found outcomes
    pub just_failed : unreadable ≡ failures outcomes
    pub counted : count s ≤ count t
    pub counts : unreadable ≢ [] → CountsFault (count s) (count t)

  module _ (count : S → ℕ) (names : List FileName) (i : ℕ) (s u : S) (files : Files) (unreadable : List FileName) (so_far : AttemptedSoFar count names i s files unreadable u) where
    pub attempts_so_far : AttemptsSome gives refuses names s u
    attempts_so_far = record {
      attempts = so_far.outcomes;
      others = drop i names;
      reached = u;
      in_order = sym (take-append-drop i names) ∙ ap (λ l. l ++ drop i names) (sym so_far.in_order);
      in_turn = so_far.in_turn;
      ends = inl refl;
    }

    pub loads_readable : i ≡ length names → LoadsReadable gives refuses names s files unreadable u
    loads_readable all = record {
      attempts = so_far.outcomes;
      in_order = so_far.in_order ∙ ap (λ k. take k names) all ∙ take-length names;
      in_turn = so_far.in_turn;
      just_these = so_far.just_these;
      just_failed = so_far.just_failed;
    }

    module _ (n : FileName) (within : i < length names) (named : n ≡ get_or names i n) (t : S) where
      split_here : names ≡ take i names ++ n ∷ drop (suc i) names
      split_here = sym (take-append-drop i names) ∙ ap (λ l. take i names ++ l) (drop-cons names i n within ∙ ap (λ m. m ∷ drop (suc i) names) (sym named))

      counts_on : (outcome : Outcome) (now : Files) (after : List FileName) → Adds n outcome files unreadable now after → (outcome ≡ failed → CountsFault (count u) (count t)) → count u ≤ count t → after ≢ [] → CountsFault (count s) (count t)
      counts_on (gave None) now after added here later some = counts_more (count s) (count u) (count t) (so_far.counts (λ none. some (added.1 ∙ none))) later
      counts_on (gave (Some bytes)) now after added here later some = counts_more (count s) (count u) (count t) (so_far.counts (λ none. some (added.1 ∙ none))) later
      counts_on failed now after added here later some = counts_later (count s) (count u) (count t) so_far.counted (here refl) later

      -- one more read
      pub attempt_more : IsStrictlySortedBy name_cmp names → (now : Files) (after : List FileName) → Attempts gives refuses count u n files unreadable now after t → count u ≤ count t → AttemptedSoFar count names (i + 1) s now after t
      attempt_more ascending now after step later =
          let below : AllByRecursion (λ m. name_cmp m n ≡ Less) (attempted so_far.outcomes) = subst (AllByRecursion (λ m. name_cmp m n ≡ Less)) (sym so_far.in_order) (below_before (take i names) n (drop (suc i) names) (subst (IsStrictlySortedBy name_cmp) split_here ascending)) in
          record {
            outcomes = so_far.outcomes ++ (n, step.outcome) ∷ [];
            in_order = attempted-push so_far.outcomes (n, step.outcome) ∙ ap (λ l. l ++ n ∷ []) so_far.in_order ∙ sym (take_more names i n within ∙ ap (λ m. take i names ++ m ∷ []) (sym named));
            in_turn = AttemptsInTurn-push s so_far.outcomes u (n, step.outcome) t so_far.in_turn step.attempt;
            just_these = files_more so_far.outcomes n step.outcome files now unreadable after below so_far.just_these step.added;
            just_failed = unreadable_more so_far.outcomes n step.outcome files now unreadable after so_far.just_failed step.added;
            counted = omega (arith, so_far.counted);
            counts = counts_on step.outcome now after step.added step.counts later;
          }

      -- a read after which the load ended
      pub attempts_stopped : StopsAttempt gives refuses u n t → AttemptsSome gives refuses names s t
      attempts_stopped (inl refused) = record {
        attempts = so_far.outcomes;
        others = n ∷ drop (suc i) names;
        reached = u;
        in_order = split_here ∙ ap (λ l. l ++ n ∷ drop (suc i) names) (sym so_far.in_order);
        in_turn = so_far.in_turn;
        ends = inr (n, drop (suc i) names, refl, refused);
      }
      attempts_stopped (inr (outcome, here)) = record {
        attempts = so_far.outcomes ++ (n, outcome) ∷ [];
        others = drop (suc i) names;
        reached = t;
        in_order = split_here ∙ sym (append_assoc (take i names) (n ∷ []) (drop (suc i) names)) ∙ ap (λ l. l ++ drop (suc i) names) (ap (λ l. l ++ n ∷ []) (sym so_far.in_order) ∙ sym (attempted-push so_far.outcomes (n, outcome)));
        in_turn = AttemptsInTurn-push s so_far.outcomes u (n, outcome) t so_far.in_turn here;
        ends = inl refl;
      }

  -- no unreadable name stands in the files, and they ascend
  module _ (names : List FileName) (ascending : IsStrictlySortedBy name_cmp names) (s : S) (files : Files) (unreadable : List FileName) (t : S) (loads : LoadsReadable gives refuses names s files unreadable t) where
    in_turn_sorted : IsStrictlySortedBy name_cmp (attempted loads.attempts)
    in_turn_sorted = subst (IsStrictlySortedBy name_cmp) (sym loads.in_order) ascending

    pub unreadable_sorted : IsStrictlySortedBy name_cmp unreadable
    unreadable_sorted = subst (IsStrictlySortedBy name_cmp) (sym loads.just_failed) (failures_sorted loads.attempts in_turn_sorted)

    pub unreadable_absent : AllByRecursion (λ name. contents_of files name ≡ None) unreadable
    unreadable_absent = subst (AllByRecursion (λ name. contents_of files name ≡ None)) (sym loads.just_failed)
        (all_along _ _ (failures loads.attempts) (λ q absent. get-entries files q ∙ ap (find name_cmp q) loads.just_these ∙ absent) (failures_absent loads.attempts in_turn_sorted))
