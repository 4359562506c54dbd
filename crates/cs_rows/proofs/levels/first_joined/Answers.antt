use Rattle.std.proofs.Common.{sym, ◌∙◌}
use Rattle.cs_schema.specs.CatalogData.{has_join}
use Rattle.cs_rows.specs.WalkByRows.{Reached}
use Rattle.cs_rows.proofs.FirstLemmas.{first_at, none_before}
use Rattle.cs_rows.proofs.levels.first_joined.Goals as goal

pub returns-then-has_join : goal.returns-then-has_join
returns-then-has_join c =
    sym (first_at (λ (r : Reached). has_join c.args.survivors.now.catalog r.0 c.args.q) c.args.rows.now c.loop-row.row-index (0, (0, 0)) c.loop-row-test.true c.loop-row.invariant (sym c.has_join.ensures ∙ c.if-has_join.true))

pub loop-row-preserved : goal.loop-row-preserved
loop-row-preserved c =
    none_before (λ (r : Reached). has_join c.args.survivors.now.catalog r.0 c.args.q) c.args.rows.now c.loop-row.row-index (0, (0, 0)) c.loop-row-test.true c.loop-row.invariant (sym c.has_join.ensures ∙ c.if-has_join.false)
