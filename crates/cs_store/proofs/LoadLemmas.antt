-- How a load goes on from one read to the next.
use Rattle.std.proofs.Common.{inl, inr, append_assoc, ◌≡◌, ℕ, ◌+◌, ◌<◌, ◌≤◌, suc, List, [], ◌∷◌, ◌++◌, length, take, drop, Option, Some, None, MatchOption, get_or, refl, subst, sym, ap, ◌∙◌, arith}
use Rattle.std.proofs.Math.Seq.{drop-cons}
use Rattle.std.proofs.lemmas.List.{take_more, take-append-drop}
use Rattle.std.specs.Global.{Vec}
use Rattle.std.specs.FinMap.{entries, insert, put, entries-insert}
use Rattle.std.specs.List.{AllByRecursion}
use Rattle.std.specs.List.Sorted.{IsStrictlySortedBy}
use Rattle.std.specs.Option.{option_map}
use Rattle.std.specs.declared.cmp.Ordering.TheVariants.{Less}
use Rattle.cs_schema.specs.FileNames.{name_cmp}
use Rattle.cs_schema.specs.NameOrder.{name_cmp_total}
use Rattle.cs_schema.specs.declared.file_name.FileName.{FileName}
use Rattle.cs_store.specs.FileSet.{Files}
use Rattle.cs_store.proofs.FileSetLemmas.{put_last}
use Rattle.cs_store.specs.Load.{Answers, names_of, present, ReadsInTurn, StopsLoading, ReadsSome}
use Rattle.cs_store.specs.declared.fault.StoreFault.{StoreFault}
use Rattle.cs_store.specs.declared.fault.StoreFault.TheVariants.{Device}
use Rattle.cs_store.specs.declared.fault.Fault.TheVariants.{Read}

-- what holds of all of a list holds of one in its midst
in_midst : (P : FileName → Type 0) (xs : List FileName) (n : FileName) (rest : List FileName) → AllByRecursion P (xs ++ n ∷ rest) → P n
in_midst P [] n rest h = h.0
in_midst P (x ∷ xs) n rest h = in_midst P xs n rest h.1

-- in ascending names, those before a name are below it
pub below_before : (xs : List FileName) (n : FileName) (rest : List FileName) → IsStrictlySortedBy name_cmp (xs ++ n ∷ rest) → AllByRecursion (λ m. name_cmp m n ≡ Less) xs
unfolding IsStrictlySortedBy
below_before [] n rest h = tt
below_before (x ∷ xs) n rest h = (in_midst _ xs n rest h.0, below_before xs n rest h.1)

-- so are the names of those that gave a file
below_present : (answers : Answers) (n : FileName) → AllByRecursion (λ m. name_cmp m n ≡ Less) (names_of answers) → AllByRecursion (λ e. name_cmp e.0 n ≡ Less) (present answers)
below_present [] n h = tt
below_present ((m, None) ∷ rest) n h = below_present rest n h.1
below_present ((m, Some bytes) ∷ rest) n h = (h.0, below_present rest n h.1)

present-push-Some : (answers : Answers) (n : FileName) (bytes : List ℕ) → present (answers ++ (n, Some bytes) ∷ []) ≡ present answers ++ (n, bytes) ∷ []
present-push-Some [] n bytes = refl
present-push-Some ((m, None) ∷ rest) n bytes = present-push-Some rest n bytes
present-push-Some ((m, Some bs) ∷ rest) n bytes = ap (λ l. (m, bs) ∷ l) (present-push-Some rest n bytes)

present-push-None : (answers : Answers) (n : FileName) → present (answers ++ (n, None) ∷ []) ≡ present answers
present-push-None [] n = refl
present-push-None ((m, None) ∷ rest) n = present-push-None rest n
present-push-None ((m, Some bs) ∷ rest) n = ap (λ l. (m, bs) ∷ l) (present-push-None rest n)

names_of-push : (answers : Answers) (a : FileName × Option (List ℕ)) → names_of (answers ++ a ∷ []) ≡ names_of answers ++ a.0 ∷ []
names_of-push [] a = refl
names_of-push (b ∷ rest) a = ap (λ l. b.0 ∷ l) (names_of-push rest a)

module _ {S : Type 0} (gives : S → FileName → Option (List ℕ) → S → Type 0) where
  -- one more read after those that answered
  ReadsInTurn-push : (s : S) (answers : Answers) (u : S) (a : FileName × Option (List ℕ)) (t : S) → ReadsInTurn gives s answers u → gives u a.0 a.1 t → ReadsInTurn gives s (answers ++ a ∷ []) t
  ReadsInTurn-push s [] u a t same given = (t, subst (λ v. gives v a.0 a.1 t) same given, refl)
  ReadsInTurn-push s (b ∷ rest) u a t run given = (run.0, run.1, ReadsInTurn-push run.0 rest u a t run.2 given)

  -- the first i names were read, the files are those that were there, and no fault was forgotten
  pub record ReadSoFar (count : S → ℕ) (names : List FileName) (i : ℕ) (s : S) (files : Files) (t : S) : Type 0 where
    pub answers : Answers
    pub in_order : names_of answers ≡ take i names
    pub in_turn : ReadsInTurn gives s answers t
    pub just_these : entries files ≡ present answers
    pub counted : count s ≤ count t

  module _ (count : S → ℕ) (names : List FileName) (i : ℕ) (n : FileName) (within : i < length names) (named : n ≡ get_or names i n) (s u t : S) where
    names_more : (answers : Answers) (a : Option (List ℕ)) → names_of answers ≡ take i names → names_of (answers ++ (n, a) ∷ []) ≡ take (i + 1) names
    names_more answers a in_order = names_of-push answers (n, a) ∙ ap (λ l. l ++ n ∷ []) in_order ∙ sym (take_more names i n within ∙ ap (λ m. take i names ++ m ∷ []) (sym named))

    split_here : names ≡ take i names ++ n ∷ drop (suc i) names
    split_here = sym (take-append-drop i names) ∙ ap (λ l. take i names ++ l) (drop-cons names i n within ∙ ap (λ m. m ∷ drop (suc i) names) (sym named))

    -- one more read that answered
    pub read_more : count u ≤ count t → IsStrictlySortedBy name_cmp names → (files : Files) (file : Option (Vec ℕ)) (now : Files) → ReadSoFar count names i s files u → gives u n (option_map (λ bytes. bytes.items) file) t → MatchOption file (now ≡ files) (λ bytes. now ≡ insert files n bytes.items) → ReadSoFar count names (i + 1) s now t
    read_more counted ascending files None now so_far given kept = record {
      answers = so_far.answers ++ (n, None) ∷ [];
      in_order = names_more so_far.answers None so_far.in_order;
      in_turn = ReadsInTurn-push s so_far.answers u (n, None) t so_far.in_turn given;
      just_these = ap entries kept ∙ so_far.just_these ∙ sym (present-push-None so_far.answers n);
      counted = omega (arith, so_far.counted);
    }
    read_more counted ascending files (Some bytes) now so_far given kept =
        let below : AllByRecursion (λ m. name_cmp m n ≡ Less) (names_of so_far.answers) = subst (AllByRecursion (λ m. name_cmp m n ≡ Less)) (sym so_far.in_order) (below_before (take i names) n (drop (suc i) names) (subst (IsStrictlySortedBy name_cmp) split_here ascending)) in
        record {
          answers = so_far.answers ++ (n, Some bytes.items) ∷ [];
          in_order = names_more so_far.answers (Some bytes.items) so_far.in_order;
          in_turn = ReadsInTurn-push s so_far.answers u (n, Some bytes.items) t so_far.in_turn given;
          just_these = ap entries kept ∙ entries-insert name_cmp_total files n bytes.items ∙ ap (put name_cmp n bytes.items) so_far.just_these ∙ put_last (present so_far.answers) n bytes.items (below_present so_far.answers n below) ∙ sym (present-push-Some so_far.answers n bytes.items);
          counted = omega (arith, so_far.counted);
        }

    -- a read that the device refused
    pub read_refused : (refuses : S → FileName → StoreFault → S → Type 0) (files : Files) → ReadSoFar count names i s files u → refuses u n Device t → StopsLoading gives refuses names s (Read n) t
    read_refused refuses files so_far refused = record {
      answers = so_far.answers;
      name = n;
      others = drop (suc i) names;
      reached = u;
      in_order = split_here ∙ ap (λ l. l ++ n ∷ drop (suc i) names) (sym so_far.in_order);
      in_turn = so_far.in_turn;
      refused = refused;
      named = refl;
    }

    -- a read that was refused, for whatever reason
    pub some_refused : (refuses : S → FileName → StoreFault → S → Type 0) (files : Files) → ReadSoFar count names i s files u → (why : StoreFault) → refuses u n why t → ReadsSome gives refuses names s t
    some_refused refuses files so_far why refused = record {
      answers = so_far.answers;
      others = n ∷ drop (suc i) names;
      reached = u;
      in_order = split_here ∙ ap (λ l. l ++ n ∷ drop (suc i) names) (sym so_far.in_order);
      in_turn = so_far.in_turn;
      ends = inr (record { name = n; others = drop (suc i) names; why = why; first = refl; refused = refused });
    }

    -- a read that answered, after which the load ended
    pub some_read : (refuses : S → FileName → StoreFault → S → Type 0) (files : Files) → ReadSoFar count names i s files u → (file : Option (List ℕ)) → gives u n file t → ReadsSome gives refuses names s t
    some_read refuses files so_far file given = record {
      answers = so_far.answers ++ (n, file) ∷ [];
      others = drop (suc i) names;
      reached = t;
      in_order = split_here ∙ sym (append_assoc (take i names) (n ∷ []) (drop (suc i) names)) ∙ ap (λ l. l ++ drop (suc i) names) (ap (λ l. l ++ n ∷ []) (sym so_far.in_order) ∙ sym (names_of-push so_far.answers (n, file)));
      in_turn = ReadsInTurn-push s so_far.answers u (n, file) t so_far.in_turn given;
      ends = inl refl;
    }

  -- reads that all answered
  pub some_so_far : (count : S → ℕ) (names : List FileName) (i : ℕ) (s u : S) (refuses : S → FileName → StoreFault → S → Type 0) (files : Files) → ReadSoFar count names i s files u → ReadsSome gives refuses names s u
  some_so_far count names i s u refuses files so_far = record {
    answers = so_far.answers;
    others = drop i names;
    reached = u;
    in_order = sym (take-append-drop i names) ∙ ap (λ l. l ++ drop i names) (sym so_far.in_order);
    in_turn = so_far.in_turn;
    ends = inl refl;
  }
