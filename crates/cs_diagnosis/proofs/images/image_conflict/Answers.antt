use Rattle.std.proofs.Common.{sym, ◌∙◌}
use Rattle.cs_rows.specs.Survivors.{contents_of}
use Rattle.cs_order.specs.Tables.{table_of}
use Rattle.cs_diagnosis.proofs.ImageFacts.{placed, not_placed}
use Rattle.cs_diagnosis.proofs.images.image_conflict.Goals as goal

pub returns-then-is_placed : goal.returns-then-is_placed
returns-then-is_placed g c =
    let st = c.args.store.now in
    placed st.catalog.now (contents_of st.survivors.now) (table_of st.catalog.now st.walked.rows) (c.args.p, c.args.s) c.site-site.result c.none.result c.site-site.ensures.site c.none.ensures (sym c.is_placed.ensures ∙ c.if-is_placed.true)

pub returns-else-is_placed : goal.returns-else-is_placed
returns-else-is_placed g c =
    let st = c.args.store.now in
    not_placed st.catalog.now (contents_of st.survivors.now) (table_of st.catalog.now st.walked.rows) (c.args.p, c.args.s) c.site-site.result c.site_alone.result c.site-site.ensures.site c.site_alone.ensures (sym c.is_placed.ensures ∙ c.if-is_placed.false)
