use Rattle.std.proofs.Common.{List, ℕ, sym, subst}
use Rattle.cs_segment.specs.SegmentData.{ReadsSegment}
use Rattle.cs_segment.proofs.parallel_read.par_read_segment.Goals as goal

pub returns-then-whole : goal.returns-then-whole
returns-then-whole g c =
    let Q : List ℕ → Type 0 = λ b. ReadsSegment c.args.catalog.now c.args.p c.args.s b c.join-whole.result.1 in
    subst Q (sym (c.join-whole.ensures.first.found c.if-whole.true)) c.join-whole.ensures.second
