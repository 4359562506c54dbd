use Rattle.std.proofs.Common.{◌≡◌, ℕ, ◌<◌, Some}
use Rattle.std.specs.List.{slice_get}
use Rattle.cs_diagnosis.specs.declared.findings.Explanation.{Explanation}
use Rattle.pinepolo_answers.specs.Spare.{Spares}
use Rattle.pinepolo_answers.proofs.doubted.is_spare.Given as goal

-- no explanation so far does without the site
abbrev pub invariant-loop-explanation : goal.invariant-loop-explanation
invariant-loop-explanation l = (k : ℕ) (e : Explanation) → k < l.explanation-index → slice_get l.found k ≡ Some e → ¬ Spares e l.loss l.site
