use Rattle.std.proofs.Common.{arith, get_or}
use Rattle.std.proofs.lemmas.Option.{slice_get_within, slice_get-get_or}
use Rattle.cs_schema.specs.declared.file_name.FileName.TheVariants.{Seg}
use Rattle.cs_restore.proofs.Compared.{none_compared, one_compared, all_compared}
use Rattle.cs_restore.proofs.comparing.compare_names.Goals as goal

pub loop-name-init : goal.loop-name-init
loop-name-init c = none_compared c.args.answer.now c.args.read.now.files c.args.names.now c.new-2.result.items

pub loop-name-preserved : goal.loop-name-preserved
loop-name-preserved c =
    one_compared c.args.answer.now c.args.read.now.files c.args.names.now c.loop-name.name-index c.loop-name.compared.changes.items c.loop-name.invariant
    c.step_of.result c.add_step.new.compared.changes.items (get_or c.args.names.now c.loop-name.name-index (Seg 0 0)) (slice_get-get_or c.args.names.now c.loop-name.name-index (Seg 0 0) c.loop-name-test.true) c.step_of.ensures.named c.step_of.ensures.same c.in_ok-add_step.ensures

pub returns : goal.returns
returns c =
    all_compared c.args.answer.now c.args.read.now.files c.args.names.now c.loop-name.compared.changes.items c.loop-name.name-index c.requires (λ j n at. omega (arith, slice_get_within c.args.names.now j n at)) c.loop-name.invariant
