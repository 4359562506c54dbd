use Rattle.std.proofs.Common.{sym, subst}
use Rattle.cs_rebuild.specs.Steps.{AreOrdered, IsUnordered}
use Rattle.cs_rebuild.proofs.SoundFacts.{walked_table}
use Rattle.cs_rebuild.proofs.Verdicts.{memory_or}
use Rattle.cs_rebuild.proofs.verifying.order_store.Goals as goal

pub returns-in-Err-clause-err : goal.returns-in-Err-clause-err
returns-in-Err-clause-err g c = memory_or _ c.in-Err.ensures.err IsUnordered.astray

pub returns-clause-err : goal.returns-clause-err
returns-clause-err g c = memory_or _ c.in-Err-orders_of.ensures.err (IsUnordered.refused c.in-Ok.walked.rows c.in-Ok.ensures.ok.walk)

pub store_of-requires-clause-table : goal.store_of-requires-clause-table
store_of-requires-clause-table g c = walked_table c.args.catalog.now c.projection_count-rules.ensures.rules c.requires.read.0 c.args.loss c.args.survivors.now c.requires.read.1.reads c.in-Ok.walked.rows c.in-Ok.ensures.ok.walk

pub returns-in-Ok-orders_of-clause-ok : goal.returns-in-Ok-orders_of-clause-ok
returns-in-Ok-orders_of-clause-ok g c =
    let C = c.args.catalog.now in
    let L = c.args.loss in
    let v = c.args.survivors.now in
    let e = c.store_of.ensures in
    let ordered : AreOrdered C L v c.in-Ok.walked c.in-Ok-orders_of.orders = record { walked = c.in-Ok.ensures.ok; rows_sound = c.in-Ok-orders_of.ensures.sound; orders = c.in-Ok-orders_of.ensures.ok } in
    subst (λ o. AreOrdered C L v c.store_of.result.walked o) (sym e.orders) (subst (λ w. AreOrdered C L v w c.in-Ok-orders_of.orders) (sym e.walked) ordered)
