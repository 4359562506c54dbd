use Rattle.std.proofs.Common.{ap, ◌∙◌, sym, arith, ◌+◌, ℕ, length}
use Rattle.std.proofs.lemmas.List.FromFn.{length-map-range_with_len}
use Rattle.cs_rows.specs.Survivors.{contents_of}
use Rattle.cs_rows.specs.Walk.{segment_rows}
use Rattle.cs_rows.proofs.RangeLemmas.{in_segment}
use Rattle.cs_rows.proofs.PartLemmas.{first_more}
use Rattle.cs_rows.proofs.counts.rows_in_projection.Goals as goal

pub loop-s-preserved : goal.loop-s-preserved
loop-s-preserved c = (
  ap (λ (k : ℕ). c.loop-s.count + k) (c.row_count.ensures ∙ sym (length-map-range_with_len (in_segment c.loop-s.s) 0 (length ((contents_of c.args.survivors.now).image c.args.p c.loop-s.s).pairs)))
      ∙ first_more (segment_rows (contents_of c.args.survivors.now) c.args.p) c.loop-s.count c.loop-s.s c.loop-s.invariant.0,
  omega arith,
)
