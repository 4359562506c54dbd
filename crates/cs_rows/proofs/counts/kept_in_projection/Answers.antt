use Rattle.std.proofs.Common.{ap, ◌∙◌, sym, arith, ◌+◌, ℕ}
use Rattle.std.proofs.lemmas.List.FromFn.{length-map-range_with_len}
use Rattle.cs_rows.specs.Survivors.{contents_of}
use Rattle.cs_rows.specs.RowSteps.{kept_rows, kept_count, row_at}
use Rattle.cs_rows.proofs.PartLemmas.{first_more}
use Rattle.cs_rows.proofs.counts.kept_in_projection.Goals as goal

pub loop-s-preserved : goal.loop-s-preserved
loop-s-preserved c = (
  ap (λ (k : ℕ). c.loop-s.count + k) (c.kept_in_segment.ensures ∙ sym (length-map-range_with_len (row_at c.args.p c.loop-s.s) 0 (kept_count c.args.survivors.now.catalog c.args.loss (contents_of c.args.survivors.now) c.args.p c.loop-s.s)))
      ∙ first_more (kept_rows c.args.survivors.now.catalog c.args.loss (contents_of c.args.survivors.now) c.args.p) c.loop-s.count c.loop-s.s c.loop-s.invariant.0,
  omega arith,
)
