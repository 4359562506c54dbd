use Rattle.std.proofs.Common.{length, ap, sym, ◌∙◌}
use Rattle.cs_order.specs.Tables.{table_of}
use Rattle.cs_rebuild.specs.declared.ordered_store.OrderedStore.{OrderedStore}
use Rattle.cs_rebuild.proofs.Counts.{length_table, none_twice}
use Rattle.cs_rebuild.proofs.Verdicts.{sound_verdict}
use Rattle.cs_rebuild.proofs.endings.row_count.Goals as goal

pub returns-in-Ok : goal.returns-in-Ok
returns-in-Ok g c F read =
    let C = c.args.catalog.now in
    let store = c.in-Ok.store in
    let rows = store.walked.rows in
    let sound = c.in-Ok.ensures.ok F read in
    (table_of C rows, sound_verdict C F c.args.loss c.args.survivors.now store.walked store.orders sound, c.rows.ensures ∙ ap (λ (o : OrderedStore). length o.walked.rows) c.ordered.ensures.is ∙ sym (length_table C rows (none_twice C rows sound.rows_sound)))

pub returns-in-Err : goal.returns-in-Err
returns-in-Err g c F read = c.in-Err.ensures.err F read
