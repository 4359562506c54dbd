use Rattle.std.proofs.Common.{◌≡◌, ℕ, ◌<◌, Some}
use Rattle.std.specs.List.{slice_get}
use Rattle.cs_diagnosis.specs.Conflicts.{AreAllHit}
use Rattle.cs_diagnosis.specs.declared.conflicts.Conflicts.{Conflicts}
use Rattle.cs_diagnosis.specs.declared.walks.WalkedPlan.{WalkedPlan}
use Rattle.cs_diagnosis.proofs.walks.Walks.refutes_plan.Given as goal

-- if the plan is one of those so far, it led to a table, and the loss contains a site of each of its conflicts
abbrev pub invariant-loop-walked : goal.invariant-loop-walked
invariant-loop-walked l = (n : ℕ) (k : WalkedPlan) → n < l.walked-index → slice_get l.walked-items n ≡ Some k → k.plan ≡ l.plan → (c : Conflicts) × (k.conflicts ≡ Some c) × AreAllHit c l.loss
