use Rattle.std.proofs.lemmas.Result.{IfErr-weaker, on_ok_weaker}
use Rattle.cs_store.proofs.MemoryLemmas.{saves_whole, saves_marked, saves_unplanned, stops_prefix, stops_unmarked, stops_write_planned}
use Rattle.cs_store.proofs.memory.save_to_memory.Goals as goal

pub returns-clause-whole : goal.returns-clause-whole
returns-clause-whole c = on_ok_weaker c.save.result (λ saves. saves_whole c.args.files.now c.args.sink.now _ saves c.requires) c.save.ensures.ok

pub returns-clause-marked : goal.returns-clause-marked
returns-clause-marked c = on_ok_weaker c.save.result (λ saves. saves_marked c.args.files.now c.args.sink.now _ saves) c.save.ensures.ok

pub returns-clause-unplanned : goal.returns-clause-unplanned
returns-clause-unplanned c = on_ok_weaker c.save.result (λ saves. saves_unplanned c.args.files.now c.args.sink.now _ saves) c.save.ensures.ok

pub returns-clause-prefix : goal.returns-clause-prefix
returns-clause-prefix c = IfErr-weaker c.save.result _ _ (λ answer stops. stops_prefix c.args.files.now c.args.sink.now _ answer stops c.requires) c.save.ensures.err

pub returns-clause-unmarked : goal.returns-clause-unmarked
returns-clause-unmarked c = IfErr-weaker c.save.result _ _ (λ answer stops. stops_unmarked c.args.files.now c.args.sink.now _ answer stops) c.save.ensures.err

pub returns-clause-planned : goal.returns-clause-planned
returns-clause-planned c = IfErr-weaker c.save.result _ _ (λ answer stops. stops_write_planned c.args.files.now c.args.sink.now _ answer stops) c.save.ensures.err
