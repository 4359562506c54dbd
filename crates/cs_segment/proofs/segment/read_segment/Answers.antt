use Rattle.std.proofs.Common.{List, ℕ, sym, subst}
use Rattle.cs_segment.specs.SegmentData.{ReadsSegment}
use Rattle.cs_segment.proofs.segment.read_segment.Goals as goal

pub returns-in-Some : goal.returns-in-Some
returns-in-Some c =
    let Q : List ℕ → Type 0 = λ b. ReadsSegment c.args.catalog.now c.args.p c.args.s b c.read_text.result in
    subst Q (sym c.in-Some.ensures.found) c.read_text.ensures
