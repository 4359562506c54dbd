use Rattle.std.proofs.Common.{◌<◌, ◌^◌, length, ap, sym, subst, ◌∙◌}
use Rattle.cs_order.specs.Tables.{is_twice, table_of}
use Rattle.cs_recovery.specs.Columns.{AreColumnsOf}
use Rattle.cs_rebuild.specs.declared.ordered_store.OrderedStore.{OrderedStore}
use Rattle.cs_rebuild.proofs.Counts.{none_twice}
use Rattle.cs_rebuild.proofs.Verdicts.{sound_verdict}
use Rattle.cs_rebuild.proofs.endings.table_columns.Goals as goal

pub returns-in-Err : goal.returns-in-Err
returns-in-Err g c F read = c.in-Err.ensures.err F read

pub rows_by_key-requires-clause-kinds : goal.rows_by_key-requires-clause-kinds
rows_by_key-requires-clause-kinds g c κs within = ap (λ (o : OrderedStore). o.walked.kinds) c.into_ordered-walked.ensures ∙ (c.in-Ok.ensures.ok c.requires.read.0 c.requires.read.1).walked.kinds

pub rows_by_key-requires-clause-few : goal.rows_by_key-requires-clause-few
rows_by_key-requires-clause-few g c κs within = subst (λ (o : OrderedStore). length o.walked.rows < 2 ^ 32) (sym c.into_ordered-walked.ensures) (c.in-Ok.ensures.ok c.requires.read.0 c.requires.read.1).walked.few

pub rows_by_key-requires-clause-once : goal.rows_by_key-requires-clause-once
rows_by_key-requires-clause-once g c κs within = ap (λ (o : OrderedStore). is_twice c.args.catalog.now o.walked.rows) c.into_ordered-walked.ensures ∙ none_twice c.args.catalog.now c.in-Ok.store.walked.rows (c.in-Ok.ensures.ok c.requires.read.0 c.requires.read.1).rows_sound

pub returns-in-Ok-rows_by_key : goal.returns-in-Ok-rows_by_key
returns-in-Ok-rows_by_key g c F read =
    let C = c.args.catalog.now in
    let store = c.in-Ok.store in
    let sound = c.in-Ok.ensures.ok F read in (
      table_of C store.walked.rows,
      sound_verdict C F c.args.loss c.args.survivors.now store.walked store.orders sound,
      subst (λ (o : OrderedStore). AreColumnsOf C (table_of C o.walked.rows) c.in-Ok-rows_by_key.columns.items) c.into_ordered-walked.ensures c.in-Ok-rows_by_key.ensures,
    )
