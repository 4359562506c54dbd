use Rattle.std.proofs.Common.{Ok, subst, refl, inl, inr}
use Rattle.cs_store.specs.FileSet.{contents_of}
use Rattle.cs_recovery.proofs.WalkedTable.{survivors_answer}
use Rattle.cs_restore.specs.Refusals.{IsFirstUnread, IsRefusedPlan}
use Rattle.cs_restore.specs.Restoring.{AreSurvivorsRead}
use Rattle.cs_restore.proofs.Compared.{others_there}
use Rattle.cs_restore.proofs.Found.{same_survivors}
use Rattle.cs_restore.proofs.planning.plan_restore.Goals as goal

pub returns-in-Ok-compare-clause-plan : goal.returns-in-Ok-compare-clause-plan
returns-in-Ok-compare-clause-plan g c d read =
    let C = c.args.catalog.now in
    let readable : AreSurvivorsRead C c.args.loss c.args.read.now.unreadable.items = subst (AreSurvivorsRead C c.args.loss) c.as_slice.ensures.value (rw c.in-Ok-None.field-0-is at c.in-Ok-None.ensures) in
    record {
      answers = survivors_answer C (contents_of c.args.read.now.files) (contents_of d) c.args.loss
          (same_survivors C c.projection_count-rules.ensures.rules c.args.loss c.args.read.now.files c.args.read.now.unreadable.items d read readable)
          (Ok c.in-Ok.answer) c.in-Ok.ensures.answer;
      others = others_there c.in-Ok.answer c.args.read.now.files c.in-Ok-compare.compared.changes.items d read.only c.in-Ok-compare.ensures;
    }

pub returns-in-Ok-Some-clause-refused : goal.returns-in-Ok-Some-clause-refused
returns-in-Ok-Some-clause-refused g c =
    inr (IsRefusedPlan.unread c.in-Ok-Some.name refl (subst (λ l. IsFirstUnread c.args.catalog.now c.args.loss l c.in-Ok-Some.name) c.as_slice.ensures.value (rw c.in-Ok-Some.field-0-is at c.in-Ok-Some.ensures)))

pub returns-in-Err-rebuild_gated-clause-refused : goal.returns-in-Err-rebuild_gated-clause-refused
returns-in-Err-rebuild_gated-clause-refused g c =
    let readable : AreSurvivorsRead c.args.catalog.now c.args.loss c.args.read.now.unreadable.items = subst (AreSurvivorsRead c.args.catalog.now c.args.loss) c.as_slice.ensures.value (rw c.in-Ok-None.field-0-is at c.in-Ok-None.ensures) in
    elim c.in-Err-rebuild_gated.ensures.answer [
      | inl memory ↦ inl memory
      | inr verdict ↦ inr (IsRefusedPlan.refused readable verdict)
    ]
