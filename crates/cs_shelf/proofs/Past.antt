-- One more content joins those that a shelf in memory has had.
use Rattle.std.proofs.Common.{◌≡◌, ◌⊎◌, inl, inr, ⊎_elim, ℕ, zero, suc, ◌≤◌, List, [], ◌∷◌, ◌++◌, length, drop, refl, sym, ◌∙◌, subst, arith, length-append, Result, Ok, Err, IfErr}
use Rattle.cs_store.specs.FileSet.{Files}
use Rattle.std.specs.FinMap.{insert}
use Rattle.cs_schema.specs.declared.file_name.FileName.{FileName}
use Rattle.cs_shelf.specs.Shelf.{Elapses, Follows, Has, Lacks, MayHave, MayLack}
use Rattle.cs_shelf.specs.Memory.{HadBeen, Since}

keeps_on : (past : List Files) (v c : Files) → HadBeen past c → HadBeen (past ++ v ∷ []) c
keeps_on [] v c had = absurd had
keeps_on (p ∷ past) v c (inl here) = inl here
keeps_on (p ∷ past) v c (inr there) = inr (keeps_on past v c there)

adds : (past : List Files) (v c : Files) → HadBeen (past ++ v ∷ []) c → HadBeen past c ⊎ (c ≡ v)
adds [] v c (inl here) = inr here
adds [] v c (inr none) = absurd none
adds (p ∷ past) v c (inl here) = inl (inl here)
adds (p ∷ past) v c (inr there) = ⊎_elim (λ had. inl (inr had)) (λ new. inr new) (adds past v c there)

newest : (past : List Files) (v c : Files) → c ≡ v → HadBeen (past ++ v ∷ []) c
newest [] v c is = inl is
newest (p ∷ past) v c is = inr (newest past v c is)

drop_push : (t : ℕ) (past : List Files) (v : Files) → t ≤ length past → drop t (past ++ v ∷ []) ≡ drop t past ++ v ∷ []
drop_push zero past v le = refl
drop_push (suc t) [] v le = absurd (omega arith)
drop_push (suc t) (p ∷ past) v le = drop_push t past v (omega arith)

pub elapses_same : (past : List Files) (files : Files) → Elapses (length past) (length past) (Since past files) (Since past files) (λ c. c ≡ files)
elapses_same past files = record { later = omega arith; nothing_else = λ t c le left. inl left; keeps = λ t c le left. left }

elapses_push : (past : List Files) (old new : Files) → Elapses (length past) (length (past ++ old ∷ [])) (Since past old) (Since (past ++ old ∷ []) new) (λ c. c ≡ new)
elapses_push past old new = record {
  later = omega (arith, length-append past (old ∷ []));
  nothing_else = λ t c le left. ⊎_elim (λ now. inr now) (λ had. inl (was t c (adds (drop t past) old c (subst (λ l. HadBeen l c) (drop_push t past old le) had)))) left;
  keeps = λ t c le left. inr (subst (λ l. HadBeen l c) (sym (drop_push t past old le)) (⊎_elim (newest (drop t past) old c) (keeps_on (drop t past) old c) left));
}
  where
    was : (t : ℕ) (c : Files) → HadBeen (drop t past) c ⊎ (c ≡ old) → Since past old t c
    was t c (inl had) = inr had
    was t c (inr new) = inl new

-- after what was there joins the past
pub elapses_to : (past later : List Files) (old new : Files) → later ≡ past ++ old ∷ [] → Elapses (length past) (length later) (Since past old) (Since later new) (λ c. c ≡ new)
elapses_to past later old new same = subst (λ l. Elapses (length past) (length l) (Since past old) (Since l new) (λ c. c ≡ new)) (sym same) (elapses_push past old new)

-- where past and files are as they were
pub elapses_still : (past later : List Files) (old new : Files) → later ≡ past → new ≡ old → Elapses (length past) (length later) (Since past old) (Since later new) (λ c. c ≡ new)
elapses_still past later old new same still =
    subst (λ l. Elapses (length past) (length l) (Since past old) (Since l new) (λ c. c ≡ new)) (sym same)
    (subst (λ f. Elapses (length past) (length past) (Since past old) (Since past f) (λ c. c ≡ f)) (sym still) (elapses_same past old))

module _ (name : FileName) (bytes : List ℕ) (old new : Files) where
  -- a call that changed nothing
  pub nothing_put : new ≡ old → Follows (MayHave name bytes) (λ c. c ≡ old) (λ c. c ≡ new)
  nothing_put is c now = (old, refl, inl (now ∙ is))

  -- a call that put the file
  pub file_put : new ≡ insert old name bytes → Follows (Has name bytes) (λ c. c ≡ old) (λ c. c ≡ new)
  file_put is c now = (old, refl, now ∙ is)

  pub file_may_be_put : new ≡ insert old name bytes → Follows (MayHave name bytes) (λ c. c ≡ old) (λ c. c ≡ new)
  file_may_be_put is c now = (old, refl, inr (now ∙ is))

-- the same, of a file that was taken away
module _ (name : FileName) (old new : Files) where
  pub nothing_gone : new ≡ old → Follows (MayLack name) (λ c. c ≡ old) (λ c. c ≡ new)
  nothing_gone is c now = (old, refl, inl (now ∙ is))

  pub file_gone : Lacks name old new → Follows (Lacks name) (λ c. c ≡ old) (λ c. c ≡ new)
  file_gone lacks c now = (old, refl, subst (λ f. Lacks name old f) (sym now) lacks)

  pub file_may_be_gone : Lacks name old new → Follows (MayLack name) (λ c. c ≡ old) (λ c. c ≡ new)
  file_may_be_gone lacks c now = (old, refl, inr (subst (λ f. Lacks name old f) (sym now) lacks))

-- what holds anyhow holds at a fault
pub at_any_fault : {A E P : Type 0} (r : Result A E) → P → IfErr r (λ _. P)
at_any_fault (Ok a) p = tt
at_any_fault (Err e) p = p
