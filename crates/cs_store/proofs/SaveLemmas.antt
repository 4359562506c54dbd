-- How a save goes on from one put to the next.
use Rattle.std.proofs.Common.{◌≡◌, ℕ, ◌≤◌, List, [], ◌∷◌, ◌++◌, refl, subst, sym, ap, ◌∙◌, append_assoc, append-nil, arith}
use Rattle.cs_schema.specs.declared.file_name.FileName.{FileName}
use Rattle.cs_store.specs.Save.{Puts, PutsInTurn}

module _ {S : Type 0} (takes : S → FileName → List ℕ → S → Type 0) where
  -- one more put after those that were taken
  PutsInTurn-push : (s : S) (files : Puts) (u : S) (f : FileName × List ℕ) (t : S) → PutsInTurn takes s files u → takes u f.0 f.1 t → PutsInTurn takes s (files ++ f ∷ []) t
  PutsInTurn-push s [] u f t same taken = (t, subst (λ v. takes v f.0 f.1 t) same taken, refl)
  PutsInTurn-push s (e ∷ files) u f t run taken = (run.0, run.1, PutsInTurn-push run.0 files u f t run.2 taken)

  -- all files but those that are left were put, in order, and no fault was forgotten
  pub record PutSoFar (count : S → ℕ) (files : Puts) (s : S) (left : Puts) (t : S) : Type 0 where
    pub saved : Puts
    pub in_order : files ≡ saved ++ left
    pub in_turn : PutsInTurn takes s saved t
    pub counted : count s ≤ count t

  module _ (count : S → ℕ) (files : Puts) (s : S) (left : Puts) (u : S) (so_far : PutSoFar count files s left u) where
    -- one more file was put
    pub put_more : (f : FileName × List ℕ) (rest : Puts) (t : S) → left ≡ f ∷ rest → takes u f.0 f.1 t → count u ≤ count t → PutSoFar count files s rest t
    put_more f rest t first taken counted = record {
      saved = so_far.saved ++ f ∷ [];
      in_order = so_far.in_order ∙ ap (λ l. so_far.saved ++ l) first ∙ sym (append_assoc so_far.saved (f ∷ []) rest);
      in_turn = PutsInTurn-push s so_far.saved u f t so_far.in_turn taken;
      counted = omega (arith, so_far.counted);
    }

    -- all files were put
    pub put_all : left ≡ [] → PutsInTurn takes s files u
    put_all none = subst (λ fs. PutsInTurn takes s fs u) (sym (so_far.in_order ∙ ap (λ l. so_far.saved ++ l) none ∙ append-nil so_far.saved)) so_far.in_turn
