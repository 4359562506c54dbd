use Rattle.std.proofs.Common.{◌∙◌, ap, subst}
use Rattle.std.specs.FinMap.{entries, len-entries}
use Rattle.cs_store.specs.FileSet.{named_bytes}
use Rattle.cs_store.proofs.SaveLemmas.{put_all, put_more}
use Rattle.cs_store.proofs.saving.save.Goals as goal

pub loop-name-preserved : goal.loop-name-preserved
loop-name-preserved g c =
    let taken = subst (λ bytes. g.K.Sink.takes c.loop-name.sink c.in-Some.name.now bytes c.put.new.self) c.as_slice.ensures.value c.in-Ok.ensures.ok in
    put_more g.K.Sink.takes g.K.Sink.fault_count (entries c.args.files.now) c.args.sink.now (named_bytes c.loop-name.name-iterator) c.loop-name.sink c.loop-name.invariant
    (c.in-Some.name.now, c.in-Some.bytes.now.items) (named_bytes c.next.new.self) c.put.new.self (ap named_bytes c.in-Some.ensures.steps) taken c.in-Ok.ensures.counted

pub returns-in-Ok-mark-clause-ok : goal.returns-in-Ok-mark-clause-ok
returns-in-Ok-mark-clause-ok g c = record {
  reached = c.loop-name.sink;
  in_turn = put_all g.K.Sink.takes g.K.Sink.fault_count (entries c.args.files.now) c.args.sink.now (named_bytes c.loop-name.name-iterator) c.loop-name.sink c.loop-name.invariant (ap named_bytes c.in-None.ensures.steps.0);
  marked = subst (λ n. g.K.Sink.marks c.loop-name.sink n c.mark.new.self) (c.len.ensures.count ∙ len-entries c.args.files.now) c.in-Ok-mark.ensures.ok;
}
