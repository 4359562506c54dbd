use Rattle.std.proofs.Common.{◌<◌, ◌∙◌, [], ap, refl, inr, length, rules, get_or, arith}
use Rattle.std.specs.FinMap.{entries}
use Rattle.std.proofs.lemmas.List.{get_or_default}
use Rattle.std.specs.Option.{option_map}
use Rattle.cs_schema.specs.declared.file_name.FileName.TheVariants.{Seg}
use Rattle.cs_store.specs.declared.fault.StoreFault.TheVariants.{Memory, Device}
use Rattle.cs_store.proofs.FileSetLemmas.{entries-empty}
use Rattle.cs_store.proofs.LoadLemmas.{read_more, read_refused, some_read, some_refused, some_so_far}
use Rattle.cs_store.proofs.loading.load_names.Goals as goal

pub loop-name-init : goal.loop-name-init
loop-name-init g c = record {
  answers = [];
  in_order = refl;
  in_turn = refl;
  just_these = ap entries c.in-Ok.ensures ∙ entries-empty;
  counted = omega arith;
}

pub returns-in-Err-Device-clause-err : goal.returns-in-Err-Device-clause-err
returns-in-Err-Device-clause-err g c =
    let within : c.loop-name.name-index < length c.args.names.now = omega arith in
    let name = get_or c.args.names.now c.loop-name.name-index (Seg 0 0) in
    inr (read_refused g.S.Source.gives g.S.Source.fault_count c.args.names.now c.loop-name.name-index name within (get_or_default _ _ (Seg 0 0) name within)
    c.args.source.now c.loop-name.source c.read.new.self g.S.Source.refuses c.loop-name.files c.loop-name.invariant (rw c.in-Err-Device.field-0-is at c.in-Err-Device.ensures.err))

pub loop-name-preserved : goal.loop-name-preserved
loop-name-preserved g c =
    let within : c.loop-name.name-index < length c.args.names.now = omega arith in
    let name = get_or c.args.names.now c.loop-name.name-index (Seg 0 0) in
    read_more g.S.Source.gives g.S.Source.fault_count c.args.names.now c.loop-name.name-index name within (get_or_default _ _ (Seg 0 0) name within)
    c.args.source.now c.loop-name.source c.read.new.self c.in-Ok-read.ensures.counted c.requires c.loop-name.files c.in-Ok-read.file c.keep.new.files c.loop-name.invariant c.in-Ok-read.ensures.ok (search rules)

pub returns-in-Err-Memory-clause-reads : goal.returns-in-Err-Memory-clause-reads
returns-in-Err-Memory-clause-reads g c =
    let within : c.loop-name.name-index < length c.args.names.now = omega arith in
    let name = get_or c.args.names.now c.loop-name.name-index (Seg 0 0) in
    some_refused g.S.Source.gives g.S.Source.fault_count c.args.names.now c.loop-name.name-index name within (get_or_default _ _ (Seg 0 0) name within)
    c.args.source.now c.loop-name.source c.read.new.self g.S.Source.refuses c.loop-name.files c.loop-name.invariant Memory (rw c.in-Err-Memory.field-0-is at c.in-Err-Memory.ensures.err)

pub returns-in-Err-Device-clause-reads : goal.returns-in-Err-Device-clause-reads
returns-in-Err-Device-clause-reads g c =
    let within : c.loop-name.name-index < length c.args.names.now = omega arith in
    let name = get_or c.args.names.now c.loop-name.name-index (Seg 0 0) in
    some_refused g.S.Source.gives g.S.Source.fault_count c.args.names.now c.loop-name.name-index name within (get_or_default _ _ (Seg 0 0) name within)
    c.args.source.now c.loop-name.source c.read.new.self g.S.Source.refuses c.loop-name.files c.loop-name.invariant Device (rw c.in-Err-Device.field-0-is at c.in-Err-Device.ensures.err)

pub returns-then-is_err-clause-reads : goal.returns-then-is_err-clause-reads
returns-then-is_err-clause-reads g c =
    let within : c.loop-name.name-index < length c.args.names.now = omega arith in
    let name = get_or c.args.names.now c.loop-name.name-index (Seg 0 0) in
    some_read g.S.Source.gives g.S.Source.fault_count c.args.names.now c.loop-name.name-index name within (get_or_default _ _ (Seg 0 0) name within)
    c.args.source.now c.loop-name.source c.read.new.self g.S.Source.refuses c.loop-name.files c.loop-name.invariant (option_map (λ bytes. bytes.items) c.in-Ok-read.file) c.in-Ok-read.ensures.ok

pub returns-clause-reads : goal.returns-clause-reads
returns-clause-reads g c =
    some_so_far g.S.Source.gives g.S.Source.fault_count c.args.names.now c.loop-name.name-index c.args.source.now c.loop-name.source g.S.Source.refuses c.loop-name.files c.loop-name.invariant
