use Rattle.std.proofs.Common.{inr}
use Rattle.std.proofs.lemmas.Result.{on_ok_weaker}
use Rattle.std.specs.Option.{option_map}
use Rattle.cs_store.specs.LoadReadable.{gave, StopsAttempt}
use Rattle.cs_store.proofs.ReadableLemmas.{attempt_gave, on_err}
use Rattle.cs_store.proofs.readable.attempt.Goals as goal

pub returns-in-Ok-clause-ok : goal.returns-in-Ok-clause-ok
returns-in-Ok-clause-ok g c =
    on_ok_weaker c.keep.result
    (λ kept. attempt_gave g.S.Source.gives g.S.Source.refuses g.S.Source.fault_count c.args.source.now c.args.name c.args.found.now.files c.keep.new.files c.args.found.now.unreadable.items c.read.new.self c.in-Ok.file kept c.in-Ok.ensures.ok)
    c.keep.ensures

pub returns-in-Ok-clause-err : goal.returns-in-Ok-clause-err
returns-in-Ok-clause-err g c =
    on_err c.keep.result (StopsAttempt g.S.Source.gives g.S.Source.refuses c.args.source.now c.args.name c.read.new.self) (inr (gave (option_map (λ bytes. bytes.items) c.in-Ok.file), c.in-Ok.ensures.ok))
