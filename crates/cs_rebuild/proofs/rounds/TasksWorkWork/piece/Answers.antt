use Rattle.std.proofs.Common.{◌≡◌, Bool, true, false, refl, ap, inl, inr, ◌⊎◌, Some, None, Result, Ok, Err}
use Rattle.std.specs.Prelude.{IfOk, IfErr}
use Rattle.cs_store.specs.declared.fault.Fault.{Fault}
use Rattle.cs_store.specs.Fault.{MemoryOr}
use Rattle.cs_rebuild.specs.Rounds.{is_memory, IsNoMemory}
use Rattle.cs_rebuild.proofs.rounds.TasksWorkWork.piece.Goals as goal

-- out of memory, by the test for it, or a task's own fault
by_test : (f : Fault) (P : Type 0) → MemoryOr f P → (is_memory f ≡ true) ⊎ (P × IsNoMemory (Some f))
by_test f P (inl m) = inl (ap is_memory m)
by_test f P (inr p) = go (is_memory f) refl
  where
    go : (b : Bool) → is_memory f ≡ b → (is_memory f ≡ true) ⊎ (P × IsNoMemory (Some f))
    go true e = inl e
    go false e = inr (p, e)

each_fault : {T : Type 0} (r : Result T Fault) (P : Fault → Type 0) → IfErr r (λ f. MemoryOr f (P f)) → IfErr r (λ f. (is_memory f ≡ true) ⊎ (P f × IsNoMemory (Some f)))
each_fault (Ok x) P h = tt
each_fault (Err f) P h = by_test f (P f) h

each_answer : {T : Type 0} (r : Result T Fault) (P : Type 0) (Q : T → Type 0) → IfOk r (λ x. P × Q x) → IfOk r (λ x. (P × IsNoMemory None) × Q x)
each_answer (Ok x) P Q h = ((h.0, tt), h.1)
each_answer (Err f) P Q h = tt

pub returns-clause-ok : goal.returns-clause-ok
returns-clause-ok g c = each_answer c.task.result _ _ c.task.ensures.ok

pub returns-clause-err : goal.returns-clause-err
returns-clause-err g c = each_fault c.task.result _ c.task.ensures.err
