use Rattle.std.proofs.Common.{◌∙◌, sym, subst, refl}
use Rattle.cs_schema.specs.Rows.{IsTable}
use Rattle.cs_order.specs.Tables.{table_of}
use Rattle.cs_rebuild.specs.OnStore.{table_on}
use Rattle.cs_rebuild.specs.Steps.{AreRead}
use Rattle.cs_rebuild.proofs.Verdicts.{on_store}
use Rattle.cs_diagnosis.specs.Candidates.{AreConflictsOf}
use Rattle.cs_diagnosis.proofs.Passes.{read_beside}
use Rattle.cs_diagnosis.proofs.WalkedTables.{no_table_beside, only_table, is_table}
use Rattle.cs_diagnosis.proofs.candidates.find_candidate.Goals as goal

pub order_store-requires-clause-read : goal.order_store-requires-clause-read
order_store-requires-clause-read g c κs within =
    let m = c.args.remains.now in
    (c.requires.read.0, read_beside m.catalog.now c.requires.read.0 m.first c.args.loss m.survivors.now c.requires.within c.requires.read.1)

pub returns-in_default : goal.returns-in_default
returns-in_default g c F read =
    let m = c.args.remains.now in
    no_table_beside m.catalog.now m.rules F m.first c.args.loss m.survivors.now read c.in-Err.fault c.in-Err.ensures.err c.in_default.not-Memory

pub store_of-store-requires-clause-table : goal.store_of-store-requires-clause-table
store_of-store-requires-clause-table g c =
    let m = c.args.remains.now in
    let o = c.in-Ok.ensures.ok in
    is_table m.catalog.now m.rules c.requires.read.0 m.first c.args.loss m.survivors.now c.requires.read.1 c.in-Ok.store.walked.rows o.walked.walk c.requires.within

pub returns : goal.returns
returns g c F read =
    let m = c.args.remains.now in
    let cat = m.rules in
    let store = c.store_of-store.result in
    let e = c.store_of-store.ensures in
    let o = c.in-Ok.ensures.ok in
    let rows = c.in-Ok.store.walked.rows in
    let here = on_store (λ C L v w. AreRead C F L v) {w = store.walked} {t = store.walked} (sym e.catalog) (sym e.loss) (sym e.survivors) refl read in
    record {
      catalog = e.catalog;
      table = subst (λ D. IsTable D (table_on store)) e.catalog
          (on_store (λ C L v w. IsTable C (table_of C w.rows)) (sym e.catalog) (sym e.loss) (sym e.survivors) (sym e.walked) (is_table m.catalog.now cat F m.first c.args.loss m.survivors.now read rows o.walked.walk c.requires.within));
      conflicts = subst (λ D. AreConflictsOf D F m.first (table_on store) c.in_ok-conflicts.conflicts) e.catalog
          (subst (λ L. AreConflictsOf store.catalog.now F L (table_on store) c.in_ok-conflicts.conflicts) e.loss (c.in_ok-conflicts.ensures F here));
      only = λ M U like held. only_table m.catalog.now cat F m.first c.args.loss m.survivors.now read rows o.walked.walk M U like held ∙ λ i. table_of (sym e.catalog i) ((sym e.walked) i).rows;
    }
