use Rattle.std.proofs.Common.{◌≡◌, rules}
use Rattle.pinepolo_answers.specs.declared.answer.Answer.TheVariants as answer
use Rattle.pinepolo_verbs.proofs.Mapped.{mapped}
use Rattle.pinepolo_verbs.proofs.performing.perform.Goals as goal

pub returns-in-Diagnose : goal.returns-in-Diagnose
returns-in-Diagnose g c = (
  rw c.in-Diagnose.is (mapped (λ d given. given ≡ answer.Diagnosed d) _ _ (λ d given same holds. rw same holds) c.diagnose.result c.map-in-Diagnose.result c.map-in-Diagnose.ensures.cases c.diagnose.ensures.ok),
  search rules,
)
