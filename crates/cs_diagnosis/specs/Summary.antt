-- The verdict on explanations.
use Rattle.std.specs.Prelude.{ℕ, ◌==◌, if◌then◌else◌, List, [], ◌∷◌, length}
use Rattle.cs_diagnosis.specs.declared.findings.Explanation.{Explanation}
use Rattle.cs_diagnosis.specs.declared.findings.Verdict.{Verdict}

-- the verdict on explanations that have this number of distinct tables
abbrev pub verdict_for : List Explanation → ℕ → Verdict
verdict_for [] tables = Verdict.NotRecoverable
verdict_for (e ∷ es) tables = if length e.loss == 0 then Verdict.Sound else (if tables == 1 then Verdict.OneTable else Verdict.Ambiguous)
