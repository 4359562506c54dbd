-- How digests go on from one read to the next.
use Rattle.std.proofs.Common.{◌≡◌, ℕ, ◌+◌, ◌<◌, List, [], ◌∷◌, ◌++◌, length, take, Option, get_or, refl, subst, sym, ap, ◌∙◌}
use Rattle.std.proofs.lemmas.List.{take_more}
use Rattle.std.proofs.Math.Seq.{take-length}
use Rattle.cs_schema.specs.declared.file_name.FileName.{FileName}
use Rattle.cs_store.specs.LoadReadable.{Outcome, Outcomes, attempted, Attempted, AttemptsInTurn}
use Rattle.cs_store.specs.declared.fault.StoreFault.{StoreFault}
use Rattle.cs_manifest.specs.declared.digesting.Digested.{Digested}
use Rattle.cs_manifest.specs.Digests.{digested, all_digested, DigestsFile, DigestsFiles}

attempted-push : (outcomes : Outcomes) (a : FileName × Outcome) → attempted (outcomes ++ a ∷ []) ≡ attempted outcomes ++ a.0 ∷ []
attempted-push [] a = refl
attempted-push (b ∷ rest) a = ap (λ l. b.0 ∷ l) (attempted-push rest a)

all_digested-push : (outcomes : Outcomes) (a : FileName × Outcome) → all_digested (outcomes ++ a ∷ []) ≡ all_digested outcomes ++ (a.0, digested a.1) ∷ []
all_digested-push [] a = refl
all_digested-push (b ∷ rest) a = ap (λ l. (b.0, digested b.1) ∷ l) (all_digested-push rest a)

module _ {S : Type 0} (gives : S → FileName → Option (List ℕ) → S → Type 0) (refuses : S → FileName → StoreFault → S → Type 0) where
  AttemptsInTurn-push : (s : S) (outcomes : Outcomes) (u : S) (a : FileName × Outcome) (t : S) → AttemptsInTurn gives refuses s outcomes u → Attempted gives refuses u a.0 a.1 t → AttemptsInTurn gives refuses s (outcomes ++ a ∷ []) t
  AttemptsInTurn-push s [] u a t same here = (t, subst (λ v. Attempted gives refuses v a.0 a.1 t) same here, refl)
  AttemptsInTurn-push s (b ∷ rest) u a t run here = (run.0, run.1, AttemptsInTurn-push run.0 rest u a t run.2 here)

  -- the first i names were read, and this is what that came to
  pub record DigestedSoFar (names : List FileName) (i : ℕ) (s : S) (files : List (FileName × Digested)) (t : S) : Type 0 where
    pub outcomes : Outcomes
    pub in_order : attempted outcomes ≡ take i names
    pub in_turn : AttemptsInTurn gives refuses s outcomes t
    pub just_these : files ≡ all_digested outcomes

  module _ (names : List FileName) (i : ℕ) (s u : S) (files : List (FileName × Digested)) (so_far : DigestedSoFar names i s files u) where
    pub digests_files : i ≡ length names → DigestsFiles gives refuses names s files u
    digests_files all = record {
      attempts = so_far.outcomes;
      in_order = so_far.in_order ∙ ap (λ k. take k names) all ∙ take-length names;
      in_turn = so_far.in_turn;
      just_these = so_far.just_these;
    }

    -- one more read
    pub digest_more : (n : FileName) → i < length names → n ≡ get_or names i n → (t : S) (found : Digested) → DigestsFile gives refuses u n found t → DigestedSoFar names (i + 1) s (files ++ (n, found) ∷ []) t
    digest_more n within named t found step = record {
      outcomes = so_far.outcomes ++ (n, step.outcome) ∷ [];
      in_order = attempted-push so_far.outcomes (n, step.outcome) ∙ ap (λ l. l ++ n ∷ []) so_far.in_order ∙ sym (take_more names i n within ∙ ap (λ m. take i names ++ m ∷ []) (sym named));
      in_turn = AttemptsInTurn-push s so_far.outcomes u (n, step.outcome) t so_far.in_turn step.attempt;
      just_these = ap (λ l. l ++ (n, found) ∷ []) so_far.just_these ∙ ap (λ d. all_digested so_far.outcomes ++ (n, d) ∷ []) step.is ∙ sym (all_digested-push so_far.outcomes (n, step.outcome));
    }
