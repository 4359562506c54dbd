use Rattle.std.proofs.Common.{List, length, sym, subst, ◌∙◌}
use Rattle.cs_schema.specs.declared.cells.Cells.{Cells}
use Rattle.cs_store.specs.FileSet.{contents_of}
use Rattle.cs_recovery.specs.Columns.{AreTableColumns}
use Rattle.cs_csv.specs.Faults.{cells_at}
use Rattle.cs_tables.specs.Repeats.{AreDistinctBefore}
use Rattle.cs_tables.specs.Differences.{first_difference}
use Rattle.cs_tables.specs.Relayout.{MakesStore, MayFollow}
use Rattle.cs_tables.proofs.AnswerLemmas.{build-columns, build-keys, laid-out, store-refused}
use Rattle.cs_tables.proofs.laying.relayout.Goals as goal

pub returns-in-Err : goal.returns-in-Err
returns-in-Err g c =
    let old = c.args.old.now in
    let new = c.args.new.now in
    let may : MayFollow c.args.old.now c.args.new.now = record { same = sym {b = first_difference c.args.old.now c.args.new.now} c.first_difference.ensures ∙ c.in_default.is; safe = c.is_safe.ensures.yes c.if-not-is_safe.false } in
    store-refused old (contents_of c.args.files.now) c.args.lost new c.in-Err.fault c.store_fault.result may c.in-Err.ensures.answer c.store_fault.ensures

pub build_store-requires-clause-columns : goal.build_store-requires-clause-columns
build_store-requires-clause-columns g c κs within =
    let old = c.args.old.now in
    let new = c.args.new.now in
    let may : MayFollow c.args.old.now c.args.new.now = record { same = sym {b = first_difference c.args.old.now c.args.new.now} c.first_difference.ensures ∙ c.in_default.is; safe = c.is_safe.ensures.yes c.if-not-is_safe.false } in
    subst (AreTableColumns c.args.new.now) (sym c.as_slice.ensures.value)
    (build-columns old (contents_of c.args.files.now) c.args.lost new c.projection_count-old_rules.ensures.rules c.projection_count-new_rules.ensures.rules may c.in-Ok.columns.items c.in-Ok-arrange.arranged.items c.in-Ok.ensures.clauses.exact c.in-Ok-arrange.ensures)

pub build_store-requires-clause-keys : goal.build_store-requires-clause-keys
build_store-requires-clause-keys g c κs within =
    let old = c.args.old.now in
    let new = c.args.new.now in
    let may : MayFollow c.args.old.now c.args.new.now = record { same = sym {b = first_difference c.args.old.now c.args.new.now} c.first_difference.ensures ∙ c.in_default.is; safe = c.is_safe.ensures.yes c.if-not-is_safe.false } in
    subst (λ (rows : List Cells). AreDistinctBefore (cells_at rows c.args.new.now.key) (length (cells_at rows c.args.new.now.key))) (sym c.as_slice.ensures.value)
    (build-keys old (contents_of c.args.files.now) c.args.lost new c.projection_count-old_rules.ensures.rules c.projection_count-new_rules.ensures.rules may c.in-Ok.columns.items c.in-Ok-arrange.arranged.items c.in-Ok.ensures.clauses.exact c.in-Ok-arrange.ensures)

pub returns-in-Ok-arrange : goal.returns-in-Ok-arrange
returns-in-Ok-arrange g c =
    let old = c.args.old.now in
    let new = c.args.new.now in
    let may : MayFollow c.args.old.now c.args.new.now = record { same = sym {b = first_difference c.args.old.now c.args.new.now} c.first_difference.ensures ∙ c.in_default.is; safe = c.is_safe.ensures.yes c.if-not-is_safe.false } in
    laid-out old (contents_of c.args.files.now) c.args.lost new c.projection_count-old_rules.ensures.rules c.projection_count-new_rules.ensures.rules may c.in-Ok.columns.items c.in-Ok-arrange.arranged.items c.in-Ok.ensures.clauses.exact c.in-Ok-arrange.ensures c.build_store.result
    (subst (λ (rows : List Cells). MakesStore c.args.new.now rows c.build_store.result) c.as_slice.ensures.value c.build_store.ensures)
