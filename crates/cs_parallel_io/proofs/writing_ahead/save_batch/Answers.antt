use Rattle.std.specs.FinMap.{entries}
use Rattle.std.proofs.lemmas.Result.{on_ok_weaker, IfErr-weaker}
use Rattle.cs_parallel_io.proofs.Behind.{saves_behind, stops_behind}
use Rattle.cs_parallel_io.proofs.writing_ahead.save_batch.Goals as goal

pub returns-clause-ok : goal.returns-clause-ok
returns-clause-ok g c = on_ok_weaker c.save.result (λ saved. (c.save.new.sink.sink, saves_behind (λ s. s.sink) g.K.Sink.takes g.K.Sink.marks (entries c.args.files.now) _ c.save.new.sink saved)) c.save.ensures.ok

pub returns-clause-err : goal.returns-clause-err
returns-clause-err g c = IfErr-weaker c.save.result _ _ (λ fault stopped. (c.save.new.sink.sink, stops_behind (λ s. s.sink) g.K.Sink.takes g.K.Sink.refuses (entries c.args.files.now) _ fault c.save.new.sink stopped)) c.save.ensures.err
