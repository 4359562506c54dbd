-- A load by trusted files, by what the source behind them says.
use Rattle.std.proofs.Common.{◌≡◌, ◌⊎◌, inl, inr, ⊎_elim, ℕ, true, false, List, [], ◌∷◌, Option, Some, refl, subst, ◌∙◌}
use Rattle.cs_schema.specs.FileNames.{file_path}
use Rattle.cs_schema.specs.declared.file_name.FileName.{FileName}
use Rattle.cs_store.specs.FileSet.{Files}
use Rattle.cs_store.specs.LoadReadable.{Outcomes, gave, failed, AttemptsInTurn, LoadsReadable}
use Rattle.cs_store.specs.declared.fault.StoreFault.{StoreFault}
use Rattle.cs_store.specs.declared.fault.StoreFault.TheVariants.{Device}
use Rattle.cs_manifest.specs.declared.manifest.Manifest.{Manifest}
use Rattle.cs_parallel_io.specs.Standing.{standing}
use Rattle.cs_verifying.specs.Trust.{is_changed, gives_trusted, refuses_trusted}

module _ {S X : Type 0} (m : Manifest) (answers : S → FileName → Option (List ℕ) → Type 0) (fails : S → FileName → StoreFault → Type 0) (says : X → FileName → Option (List ℕ) → Type 0) (refuses : X → FileName → StoreFault → Type 0) (s : S) (x : X)
    (answered : (n : FileName) (file : Option (List ℕ)) → says x n file → answers s n file × ((bytes : List ℕ) → file ≡ Some bytes → is_changed m (file_path n) bytes ≡ false))
    (failed_by : (n : FileName) (fault : StoreFault) → refuses x n fault → fails s n fault ⊎ ((fault ≡ Device) × ((bytes : List ℕ) × answers s n (Some bytes) × (is_changed m (file_path n) bytes ≡ true))))
  where
    attempts : (xs : Outcomes) (a b : X) → a ≡ x → AttemptsInTurn (standing says) (standing refuses) a xs b → AttemptsInTurn (gives_trusted m (standing answers)) (refuses_trusted m (standing answers) (standing fails)) s xs s
    attempts [] a b at run = refl
    attempts ((n, gave file) ∷ rest) a b at run =
        let said = answered n file (subst (λ t. says t n file) at run.1.0) in
        (s, ((said.0, refl), said.1), attempts rest run.0 b (run.1.1 ∙ at) run.2)
    attempts ((n, failed) ∷ rest) a b at run =
        (s, ⊎_elim (λ f. inl (f, refl)) (λ c. inr (c.0, (c.1.0, (c.1.1, refl), c.1.2))) (failed_by n Device (subst (λ t. refuses t n Device) at run.1.0)), attempts rest run.0 b (run.1.1 ∙ at) run.2)

    pub loads_trusted : (names : List FileName) (files : Files) (unreadable : List FileName) → LoadsReadable (standing says) (standing refuses) names x files unreadable x
        → LoadsReadable (gives_trusted m (standing answers)) (refuses_trusted m (standing answers) (standing fails)) names s files unreadable s
    loads_trusted names files unreadable loads = record {
      attempts = loads.attempts;
      in_order = loads.in_order;
      in_turn = attempts loads.attempts x x refl loads.in_turn;
      just_these = loads.just_these;
      just_failed = loads.just_failed;
    }
