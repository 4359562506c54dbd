use Rattle.std.proofs.Common.{◌≡◌, ◌+◌, ◌∙◌, ap, sym, subst, get_or, length, take, arith}
use Rattle.std.proofs.lemmas.List.{get_or_default}
use Rattle.std.proofs.Math.Seq.{take-length}
use Rattle.cs_schema.specs.declared.file_name.FileName.TheVariants.{Seg}
use Rattle.cs_schema.specs.FileNames.{name_cmp}
use Rattle.cs_store.specs.FileSet.{contents_of}
use Rattle.std.specs.List.Sorted.{IsStrictlySortedBy}
use Rattle.cs_inspection.specs.BadFiles.{AreBadAmong}
use Rattle.cs_inspection.proofs.Listing.{none_bad, has_name, next_good, next_bad}
use Rattle.cs_inspection.proofs.inspect.bad_survivors.Goals as goal
use Rattle.cs_inspection.proofs.inspect.bad_survivors.Goals.{in-Some+in_ok-push, in_default}

pub loop-name-init : goal.loop-name-init
loop-name-init g c =
    none_bad c.args.catalog.now (contents_of c.args.files.now) c.args.unreadable.now c.new-bad.result.items c.new-bad.ensures.items

pub badness-requires : goal.badness-requires
badness-requires g c =
    has_name c.args.catalog.now c.projection_count-rules.ensures.rules c.args.loss c.deref-name-items.result.now (c.deref-name-items.ensures.value ∙ c.in_ok-names.ensures.names) c.loop-name.name-index (Seg 0 0) c.loop-name-test.true

pub loop-name-preserved : goal.loop-name-preserved
loop-name-preserved g c =
    let C = c.args.catalog.now in
    let F = contents_of c.args.files.now in
    let names = c.deref-name-items.result.now in
    let i = c.loop-name.name-index in
    let name = get_or names i (Seg 0 0) in
    let named = get_or_default names i (Seg 0 0) name c.loop-name-test.true in
    let ascending = subst (IsStrictlySortedBy name_cmp) (sym c.deref-name-items.ensures.value) c.in_ok-names.ensures.order in
    elim c.match-branch-3.branch [
      | in-Some+in_ok-push w ↦
          subst (λ bad. AreBadAmong C F c.args.unreadable.now (take (i + 1) names) bad) (sym (ap (λ v. v.items) w.bad-is ∙ w.in_ok-push.ensures.items))
          (next_bad C F c.args.unreadable.now names i c.loop-name.bad.items c.loop-name.invariant name c.loop-name-test.true named ascending w.in-Some.why (rw w.in-Some.is at c.in_ok-why.ensures))
      | in_default w ↦
          subst (λ bad. AreBadAmong C F c.args.unreadable.now (take (i + 1) names) bad) (sym (ap (λ v. v.items) w.bad-is))
          (next_good C F c.args.unreadable.now names i c.loop-name.bad.items c.loop-name.invariant name c.loop-name-test.true named (rw w.in_default.is at c.in_ok-why.ensures))
    ]

pub returns : goal.returns
returns g c =
    let names = c.deref-name-items.result.now in
    let end : c.loop-name.name-index ≡ length names = omega arith in
    let whole = ap (λ k. take k names) end ∙ take-length names in
    subst (λ l. AreBadAmong c.args.catalog.now (contents_of c.args.files.now) c.args.unreadable.now l c.loop-name.bad.items)
    (whole ∙ c.deref-name-items.ensures.value ∙ c.in_ok-names.ensures.names) c.loop-name.invariant
