use Rattle.std.proofs.Common.{rules}
use Rattle.std.proofs.lemmas.List.Sorted.{answers_always}
use Rattle.cs_schema.specs.declared.file_name.FileName.{FileName}
use Rattle.cs_inspection.specs.declared.badness.Badness.{Badness}
use Rattle.pinepolo_answers.proofs.NamesFound.{found, absent}
use Rattle.pinepolo_answers.proofs.file_lines.badness_of.Goals as goal

pub returns-in-Ok : goal.returns-in-Ok
returns-in-Ok c =
    let by_name = c.in-Ok.ensures.position (λ (file : FileName × Badness). file.0) (answers_always _ _ _ (λ f a r g called. search rules)) in
    found c.args.bad.now c.requires c.args.name c.in-Ok.at c.in-Ok.ensures.bound by_name (FileName.Seg 0 0, Badness.Unreadable)

pub returns-in-Err : goal.returns-in-Err
returns-in-Err c listed =
    let by_name = c.in-Err.ensures.position (λ (file : FileName × Badness). file.0) (answers_always _ _ _ (λ f a r g called. search rules)) in
    absent c.args.bad.now c.requires c.args.name c.in-Err.field-0 by_name listed.0 listed.1
