use Rattle.std.proofs.Common.{◌≡◌, ap, ◌∙◌, sym, arith, ◌+◌, ℕ, length}
use Rattle.cs_rows.specs.Survivors.{contents_of}
use Rattle.cs_rows.specs.RowSteps.{projection_kept}
use Rattle.cs_rows.proofs.PartLemmas.{done, first_more}
use Rattle.cs_rows.proofs.SurvivingRows.{surviving_are}
use Rattle.cs_rows.proofs.counts.surviving_row_count.Goals as goal

pub loop-p-preserved : goal.loop-p-preserved
loop-p-preserved c = (
  ap (λ (k : ℕ). c.loop-p.count + k) c.kept_in_projection-count.ensures.count ∙ first_more (projection_kept c.args.survivors.now.catalog c.args.loss (contents_of c.args.survivors.now)) c.loop-p.count c.loop-p.p c.loop-p.invariant.0,
  omega arith,
)

pub returns : goal.returns
returns c =
    let within = c.projection_count-p-end.ensures.count in
    let e : c.loop-p.p ≡ length c.args.survivors.now.catalog.projections = omega arith in
    c.loop-p.invariant.0
    ∙ ap (λ (n : ℕ). length (done (projection_kept c.args.survivors.now.catalog c.args.loss (contents_of c.args.survivors.now)) n)) e
    ∙ ap length (sym (surviving_are c.args.survivors.now.catalog c.args.loss (contents_of c.args.survivors.now)))
