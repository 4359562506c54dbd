use Rattle.std.proofs.Common.{◌<◌, ◌∙◌, [], ap, refl, length, get_or, arith}
use Rattle.std.specs.FinMap.{entries}
use Rattle.std.proofs.lemmas.List.{get_or_default}
use Rattle.cs_schema.specs.declared.file_name.FileName.TheVariants.{Seg}
use Rattle.cs_store.proofs.FileSetLemmas.{entries-empty}
use Rattle.cs_store.proofs.ReadableLemmas.{attempt_more, attempts_stopped, loads_readable, unreadable_sorted, unreadable_absent}
use Rattle.cs_store.proofs.readable.attempt_names.Goals as goal

pub loop-name-init : goal.loop-name-init
loop-name-init g c = record {
  outcomes = [];
  in_order = refl;
  in_turn = refl;
  just_these = ap entries c.in_ok-new.ensures ∙ entries-empty;
  just_failed = c.new-2.ensures.items;
  counted = omega arith;
  counts = λ some. absurd (some c.new-2.ensures.items);
}

pub loop-name-preserved : goal.loop-name-preserved
loop-name-preserved g c =
    let within : c.loop-name.name-index < length c.args.names.now = omega arith in
    let name = get_or c.args.names.now c.loop-name.name-index (Seg 0 0) in
    attempt_more g.S.Source.gives g.S.Source.refuses g.S.Source.fault_count c.args.names.now c.loop-name.name-index c.args.source.now c.loop-name.source c.loop-name.found.files c.loop-name.found.unreadable.items c.loop-name.invariant
    name within (get_or_default _ _ (Seg 0 0) name within) c.attempt.new.source c.requires c.attempt.new.found.files c.attempt.new.found.unreadable.items c.in_ok-attempt.ensures.ok c.attempt.ensures.counted

pub returns-in_err-attempt-clause-reads : goal.returns-in_err-attempt-clause-reads
returns-in_err-attempt-clause-reads g c =
    let within : c.loop-name.name-index < length c.args.names.now = omega arith in
    let name = get_or c.args.names.now c.loop-name.name-index (Seg 0 0) in
    attempts_stopped g.S.Source.gives g.S.Source.refuses g.S.Source.fault_count c.args.names.now c.loop-name.name-index c.args.source.now c.loop-name.source c.loop-name.found.files c.loop-name.found.unreadable.items c.loop-name.invariant
    name within (get_or_default _ _ (Seg 0 0) name within) c.attempt.new.source c.in_err-attempt.ensures.err

pub returns-clause-order : goal.returns-clause-order
returns-clause-order g c =
    unreadable_sorted g.S.Source.gives g.S.Source.refuses c.args.names.now c.requires c.args.source.now c.loop-name.found.files c.loop-name.found.unreadable.items c.loop-name.source
    (loads_readable g.S.Source.gives g.S.Source.refuses g.S.Source.fault_count c.args.names.now c.loop-name.name-index c.args.source.now c.loop-name.source c.loop-name.found.files c.loop-name.found.unreadable.items c.loop-name.invariant (omega arith))

pub returns-clause-apart : goal.returns-clause-apart
returns-clause-apart g c =
    unreadable_absent g.S.Source.gives g.S.Source.refuses c.args.names.now c.requires c.args.source.now c.loop-name.found.files c.loop-name.found.unreadable.items c.loop-name.source
    (loads_readable g.S.Source.gives g.S.Source.refuses g.S.Source.fault_count c.args.names.now c.loop-name.name-index c.args.source.now c.loop-name.source c.loop-name.found.files c.loop-name.found.unreadable.items c.loop-name.invariant (omega arith))
