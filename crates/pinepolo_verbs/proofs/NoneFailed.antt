-- A load that goes on after reads that fail, where none failed.
use Rattle.std.proofs.Common.{◌≡◌, ◌≢◌, ℕ, List, [], ◌∷◌, Option, None, Some, refl, sym, ap, ◌∙◌}
use Rattle.std.specs.Prelude.{slice_get}
use Rattle.std.proofs.lemmas.Option.{none-some}
use Rattle.cs_schema.specs.declared.file_name.FileName.{FileName}
use Rattle.cs_store.specs.FileSet.{Files}
use Rattle.cs_store.specs.Load.{Answers, Loads, ReadsInTurn, names_of, present}
use Rattle.cs_store.specs.LoadReadable.{AttemptsInTurn, LoadsReadable, Outcomes, attempted, failed, failures, found, gave}
use Rattle.cs_store.specs.declared.fault.StoreFault.{StoreFault}

-- what the reads answered that did not fail
abbrev answers_of : Outcomes → Answers
answers_of [] = []
answers_of ((name, gave file) ∷ rest) = (name, file) ∷ answers_of rest
answers_of ((name, failed) ∷ rest) = answers_of rest

some-none : (n : FileName) (names : List FileName) → n ∷ names ≢ []
some-none n names e = absurd (cc e)

same_names : (attempts : Outcomes) → failures attempts ≡ [] → names_of (answers_of attempts) ≡ attempted attempts
same_names [] h = refl
same_names ((n, gave file) ∷ rest) h = ap (λ l. n ∷ l) (same_names rest h)
same_names ((n, failed) ∷ rest) h = absurd (some-none n (failures rest) h)

same_files : (attempts : Outcomes) → failures attempts ≡ [] → present (answers_of attempts) ≡ found attempts
same_files [] h = refl
same_files ((n, gave None) ∷ rest) h = same_files rest h
same_files ((n, gave (Some bytes)) ∷ rest) h = ap (λ l. (n, bytes) ∷ l) (same_files rest h)
same_files ((n, failed) ∷ rest) h = absurd (some-none n (failures rest) h)

module _ {S : Type 0} (gives : S → FileName → Option (List ℕ) → S → Type 0) (refuses : S → FileName → StoreFault → S → Type 0) where
  same_reads : (attempts : Outcomes) (s t : S) → failures attempts ≡ [] → AttemptsInTurn gives refuses s attempts t → ReadsInTurn gives s (answers_of attempts) t
  same_reads [] s t h read = read
  same_reads ((n, gave file) ∷ rest) s t h read = (read.0, read.1, same_reads rest read.0 t h read.2)
  same_reads ((n, failed) ∷ rest) s t h read = absurd (some-none n (failures rest) h)

  -- it read each file as a load that stops at a failure does
  pub loads_all : (names : List FileName) (s : S) (files : Files) (unreadable : List FileName) (t : S) → LoadsReadable gives refuses names s files unreadable t → unreadable ≡ [] → Loads gives names s files t
  loads_all names s files unreadable t h none =
      let none_failed : failures h.attempts ≡ [] = sym h.just_failed ∙ none in
      record {
        answers = answers_of h.attempts;
        in_order = same_names h.attempts none_failed ∙ h.in_order;
        in_turn = same_reads h.attempts s t none_failed h.in_turn;
        just_these = h.just_these ∙ sym (same_files h.attempts none_failed);
      }

-- a list without a first name
pub no_first : (names : List FileName) → None ≡ slice_get names 0 → names ≡ []
no_first [] e = refl
no_first (n ∷ names) e = absurd (none-some n e)
