-- What was read of a source that stays behind another one.
use Rattle.std.proofs.Common.{◌≡◌, ℕ, List, [], ◌∷◌, Option, refl, sym, subst, ap, ◌∙◌}
use Rattle.cs_schema.specs.declared.file_name.FileName.{FileName}
use Rattle.cs_store.specs.FileSet.{Files}
use Rattle.cs_store.specs.Load.{Answers, ReadsInTurn, Loads, StopsLoading}
use Rattle.cs_store.specs.LoadReadable.{Outcomes, gave, failed, AttemptsInTurn, LoadsReadable}
use Rattle.cs_store.specs.declared.fault.Fault.{Fault}
use Rattle.cs_store.specs.declared.fault.StoreFault.{StoreFault}
use Rattle.cs_store.specs.declared.fault.StoreFault.TheVariants.{Device}
use Rattle.cs_parallel_io.specs.Standing.{standing}

module _ {A S : Type 0} (behind : A → S) (Said : A → Type 0) (answers : S → FileName → Option (List ℕ) → Type 0) (fails : S → FileName → StoreFault → Type 0) where
  -- a step of the source in front, by what the one behind says, which stays
  abbrev pub in_front : {X : Type 0} → (S → FileName → X → Type 0) → A → FileName → X → A → Type 0
  in_front says a name x b = Said a → says (behind a) name x × (behind b ≡ behind a) × Said b

  reads_behind : (s : S) (a : A) (xs : Answers) (b : A) → behind a ≡ s → Said a → ReadsInTurn (in_front answers) a xs b → ReadsInTurn (standing answers) s xs s × (behind b ≡ s) × Said b
  reads_behind s a [] b at said run = (refl, ap behind run ∙ at, subst Said (sym run) said)
  reads_behind s a (x ∷ rest) b at said run =
      let step = run.1 said in
      let later = reads_behind s run.0 rest b (step.1 ∙ at) step.2 run.2 in
      ((s, (subst (λ t. answers t x.0 x.1) at step.0, refl), later.0), later.1, later.2)

  pub attempts_behind : (s : S) (a : A) (xs : Outcomes) (b : A) → behind a ≡ s → Said a → AttemptsInTurn (in_front answers) (in_front fails) a xs b → AttemptsInTurn (standing answers) (standing fails) s xs s
  attempts_behind s a [] b at said run = refl
  attempts_behind s a ((name, gave file) ∷ rest) b at said run =
      let step = run.1 said in
      (s, (subst (λ t. answers t name file) at step.0, refl), attempts_behind s run.0 rest b (step.1 ∙ at) step.2 run.2)
  attempts_behind s a ((name, failed) ∷ rest) b at said run =
      let step = run.1 said in
      (s, (subst (λ t. fails t name Device) at step.0, refl), attempts_behind s run.0 rest b (step.1 ∙ at) step.2 run.2)

  module _ (s : S) (names : List FileName) (a b : A) (at : behind a ≡ s) (said : Said a) where
    pub loads_behind : (files : Files) → Loads (in_front answers) names a files b → Loads (standing answers) names s files s
    loads_behind files loads = record {
      answers = loads.answers;
      in_order = loads.in_order;
      in_turn = (reads_behind s a loads.answers b at said loads.in_turn).0;
      just_these = loads.just_these;
    }

    pub stops_behind : (fault : Fault) → StopsLoading (in_front answers) (in_front fails) names a fault b → StopsLoading (standing answers) (standing fails) names s fault s
    stops_behind fault stops =
        let run = reads_behind s a stops.answers stops.reached at said stops.in_turn in
        record {
          answers = stops.answers;
          name = stops.name;
          others = stops.others;
          reached = s;
          in_order = stops.in_order;
          in_turn = run.0;
          refused = (subst (λ t. fails t stops.name Device) run.1 (stops.refused run.2).0, refl);
          named = stops.named;
        }

    pub readable_behind : (files : Files) (unreadable : List FileName) → LoadsReadable (in_front answers) (in_front fails) names a files unreadable b → LoadsReadable (standing answers) (standing fails) names s files unreadable s
    readable_behind files unreadable loads = record {
      attempts = loads.attempts;
      in_order = loads.in_order;
      in_turn = attempts_behind s a loads.attempts b at said loads.in_turn;
      just_these = loads.just_these;
      just_failed = loads.just_failed;
    }
