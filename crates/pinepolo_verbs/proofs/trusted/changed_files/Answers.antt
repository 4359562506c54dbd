use Rattle.std.proofs.Common.{◌∙◌, ◌+◌, ◌++◌, ◌∷◌, [], ap, sym, subst, arith, take, get_or, List}
use Rattle.std.proofs.lemmas.List.{take_all, take_more}
use Rattle.cs_schema.specs.declared.file_name.FileName.{FileName}
use Rattle.cs_parallel_io.specs.Standing.{standing}
use Rattle.pinepolo_answers.specs.declared.changed.ChangedFile.{ChangedFile}
use Rattle.pinepolo_verbs.specs.Changed.{AreChanged}
use Rattle.pinepolo_verbs.proofs.ChangedNames.{one_changed, one_unchanged}
use Rattle.pinepolo_verbs.proofs.trusted.changed_files.Goals as goal
use Rattle.pinepolo_verbs.proofs.trusted.changed_files.Goals.{in-Some+in_ok-push, in_default}

pub loop-name-init : goal.loop-name-init
loop-name-init g c = c.new-changed.ensures.items

pub loop-name-preserved : goal.loop-name-preserved
loop-name-preserved g c =
    let C = c.args.catalog.now in
    let m = c.args.manifest.now in
    let gives = standing g.S.SharedSource.answers in
    let refuses = standing g.S.SharedSource.fails in
    let s = c.args.source.now in
    let names = c.args.unreadable.now in
    let i = c.loop-name.name-index in
    let n = get_or names i (FileName.Seg 0 0) in
    let more = take_more names i (FileName.Seg 0 0) c.loop-name-test.true in
    elim c.match-branch-2.branch [
      | in-Some+in_ok-push w ↦
          subst (AreChanged C m gives refuses s (take (i + 1) names)) (sym (ap (λ v. v.items) w.changed-is ∙ w.in_ok-push.ensures.items))
          (subst (λ (ns : List FileName). AreChanged C m gives refuses s ns (c.loop-name.changed.items ++ w.in-Some.file ∷ [])) (sym more)
          (one_changed C m gives refuses s n w.in-Some.file (rw w.in-Some.is at c.in_ok-file.ensures) (take i names) c.loop-name.changed.items c.loop-name.invariant))
      | in_default w ↦
          subst (AreChanged C m gives refuses s (take (i + 1) names)) (sym (ap (λ v. v.items) w.changed-is))
          (subst (λ (ns : List FileName). AreChanged C m gives refuses s ns c.loop-name.changed.items) (sym more)
          (one_unchanged C m gives refuses s n (rw w.in_default.is at c.in_ok-file.ensures) (take i names) c.loop-name.changed.items c.loop-name.invariant))
    ]

pub returns : goal.returns
returns g c =
    let Are : List FileName → List ChangedFile → Type 0 = AreChanged c.args.catalog.now c.args.manifest.now (standing g.S.SharedSource.answers) (standing g.S.SharedSource.fails) c.args.source.now in
    subst (λ (ns : List FileName). Are ns c.loop-name.changed.items) (take_all c.loop-name.name-index c.args.unreadable.now (omega (arith, c.loop-name-test.false))) c.loop-name.invariant
