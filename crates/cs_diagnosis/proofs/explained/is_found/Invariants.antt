use Rattle.std.proofs.Common.{◌≡◌, ℕ, ◌<◌, Some}
use Rattle.std.specs.List.{slice_get}
use Rattle.cs_diagnosis.specs.declared.findings.Explanation.{Explanation}
use Rattle.cs_safety.specs.Within.{IsWithin}
use Rattle.cs_diagnosis.proofs.explained.is_found.Given as goal

abbrev pub invariant-loop-explanation : goal.invariant-loop-explanation
invariant-loop-explanation l = (k : ℕ) (e : Explanation) → k < l.explanation-index → slice_get l.found k ≡ Some e → ¬ (IsWithin e.loss l.loss × IsWithin l.loss e.loss)
