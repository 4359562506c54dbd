-- The names that a save puts, one after the other.
use Rattle.std.proofs.Common.{◌≡◌, List, [], ◌∷◌, ◌++◌, map, sym, ap, ◌∙◌, append_assoc, append-nil}
use Rattle.cs_schema.specs.declared.file_name.FileName.{FileName}
use Rattle.cs_store.specs.Save.{Puts, PutsInTurn}

module _ {S : Type 0} (names : S → List FileName) where
  pub names_put : (s : S) (puts : Puts) (t : S) → PutsInTurn (λ s name bytes t. names t ≡ names s ++ name ∷ []) s puts t → names t ≡ names s ++ map (λ file. file.0) puts
  names_put s [] t same = ap names same ∙ sym (append-nil (names s))
  names_put s (f ∷ rest) t run = names_put run.0 rest t run.2 ∙ ap (λ l. l ++ map (λ file. file.0) rest) run.1 ∙ append_assoc (names s) (f.0 ∷ []) (map (λ file. file.0) rest)
