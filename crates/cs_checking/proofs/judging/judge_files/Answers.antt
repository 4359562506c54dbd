use Rattle.std.proofs.Common.{◌≡◌, List, [], length, sym, subst, eqb-true}
use Rattle.cs_schema.specs.declared.file_name.FileName.{FileName}
use Rattle.cs_inspection.specs.declared.badness.Badness.{Badness}
use Rattle.cs_store.specs.FileSet.{contents_of}
use Rattle.cs_inspection.specs.BadFiles.{AreBadFiles}
use Rattle.cs_checking.proofs.SoundFiles.{none_bad, no_element}
use Rattle.cs_checking.proofs.judging.judge_files.Goals as goal

pub returns-in-Ok-rows_of : goal.returns-in-Ok-rows_of
returns-in-Ok-rows_of g c =
    let C = c.args.catalog.now in
    let F = contents_of c.args.files.now in
    let all_read : c.args.unreadable.now ≡ [] = no_element c.args.unreadable.now (eqb-true (length c.args.unreadable.now) 0 (sym c.if-not-is_empty.ensures)) in
    let none : c.new.result.items ≡ [] = c.new.ensures.items in
    let sound = none_bad C c.projection_count-rules.ensures.rules F c.in-Ok-rows_of.rows c.in-Ok-rows_of.ensures in
    λ asked chosen. record {
      inspected = subst (λ (bad : List (FileName × Badness)). AreBadFiles C F c.args.unreadable.now bad) (sym none) (subst (λ (names : List FileName). AreBadFiles C F names []) (sym all_read) sound);
      judged = (chosen, (none, all_read), c.in-Ok-rows_of.ensures);
    }
