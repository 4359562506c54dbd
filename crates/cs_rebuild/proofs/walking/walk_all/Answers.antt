use Rattle.std.proofs.Common.{sym, ap, ◌∙◌, subst, arith, Ok}
use Rattle.cs_schema.specs.CatalogData.{CatalogData}
use Rattle.cs_rows.specs.Survivors.{contents_of}
use Rattle.cs_rows.specs.WalkedView.{WalkedData}
use Rattle.cs_recovery.specs.Verdicts.{IsWalkedBy}
use Rattle.cs_rebuild.specs.Steps.{AreWalkedRows}
use Rattle.cs_rebuild.proofs.FewRows.{anchor_few, surviving_few, rows_few}
use Rattle.cs_rebuild.proofs.PickedColumns.{both_ok}
use Rattle.cs_rebuild.proofs.walking.walk_all.Goals as goal

pub walk_plan-requires-clause-few : goal.walk_plan-requires-clause-few
walk_plan-requires-clause-few g c κs within =
    let few = anchor_few c.args.catalog.now c.projection_count-rules.ensures.rules c.requires.read.0 c.args.loss (contents_of c.args.survivors.now) c.requires.read.1.reads c.in-Some.plan c.in-Some.ensures.some in
    omega (arith, few)

pub walk_rowwise-requires-clause-few : goal.walk_rowwise-requires-clause-few
walk_rowwise-requires-clause-few g c κs within =
    let few = surviving_few c.args.catalog.now c.projection_count-rules.ensures.rules c.requires.read.0 c.args.loss (contents_of c.args.survivors.now) c.requires.read.1.reads in
    omega (arith, few)

pub returns-in-Some-clause-ok : goal.returns-in-Some-clause-ok
returns-in-Some-clause-ok g c =
    let C = c.args.catalog.now in
    let L = c.args.loss in
    let S = contents_of c.args.survivors.now in
    both_ok c.walk_plan.result _ _ (AreWalkedRows C L S) c.walk_plan.ensures.kinds c.walk_plan.ensures.rows (λ (w : WalkedData) k e.
    let walk : IsWalkedBy C.safety C L S (Ok w.rows) = subst (λ rule. IsWalkedBy rule C L S (Ok w.rows)) (sym (sym (ap (λ (x : CatalogData). x.safety) c.catalog.view_is) ∙ c.in-Whole.is)) (c.in-Some.plan, c.in-Some.ensures.some, sym e) in
    record { kinds = k; few = rows_few C c.projection_count-rules.ensures.rules c.requires.read.0 L S c.requires.read.1.reads C.safety w.rows walk; walk = walk })

pub returns-in-Rows-clause-ok : goal.returns-in-Rows-clause-ok
returns-in-Rows-clause-ok g c =
    let C = c.args.catalog.now in
    let L = c.args.loss in
    let S = contents_of c.args.survivors.now in
    both_ok c.walk_rowwise.result _ _ (AreWalkedRows C L S) c.walk_rowwise.ensures.kinds c.walk_rowwise.ensures.rows (λ (w : WalkedData) k e.
    let walk : IsWalkedBy C.safety C L S (Ok w.rows) = subst (λ rule. IsWalkedBy rule C L S (Ok w.rows)) (sym (sym (ap (λ (x : CatalogData). x.safety) c.catalog.view_is) ∙ c.in-Rows.is)) (sym e) in
    record { kinds = k; few = rows_few C c.projection_count-rules.ensures.rules c.requires.read.0 L S c.requires.read.1.reads C.safety w.rows walk; walk = walk })
