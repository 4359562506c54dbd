use Rattle.std.proofs.Common.{◌≡◌, ◌∙◌, List, MatchOption, ap, subst, sym}
use Rattle.std.specs.FinMap.{empty, insert}
use Rattle.cs_schema.specs.Lists.{IsIn}
use Rattle.cs_schema.specs.declared.file_name.FileName.{FileName}
use Rattle.cs_store.specs.FileSet.{Files}
use Rattle.cs_inspection.specs.BadFiles.{IsListed}
use Rattle.cs_inspection.specs.declared.badness.Badness.{Badness}
use Rattle.pinepolo_verbs.specs.Changed.{TellsDamage}
use Rattle.pinepolo_verbs.proofs.AloneFile.{told}
use Rattle.pinepolo_verbs.proofs.trusted.is_damaged.Goals as goal

pub returns : goal.returns
returns g c =
    let C = c.args.catalog.now in
    let n = c.args.name in
    let bytes = c.args.bytes.items in
    let alone : c.put.new.self ≡ insert empty n bytes = c.in_ok-put.ensures.ok ∙ ap (λ (files : Files). insert files n bytes) c.in_ok-alone.ensures in
    let found = subst (λ (bad : List (FileName × Badness)). MatchOption c.badness_of.result (¬ IsListed n bad) (λ why. IsIn (n, why) bad)) c.as_slice.ensures.value c.badness_of.ensures in
    subst (TellsDamage C n bytes) (sym c.is_some.ensures) (told C n bytes c.put.new.self alone c.in_ok-bad.bad.items c.in_ok-bad.ensures c.badness_of.result found)
