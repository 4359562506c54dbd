use Rattle.std.proofs.lemmas.Result.{err_from_is_err_and}
use Rattle.cs_segment.proofs.Heads.{no_head, no_bodies}
use Rattle.cs_segment.proofs.reader.SegmentReader.open.Goals as goal

pub returns-in_default-clause-refused : goal.returns-in_default-clause-refused
returns-in_default-clause-refused c = λ damaged. no_head c.args.catalog.now c.args.p c.args.s c.width.result c.args.text.now c.width.ensures.range.1 c.width.ensures.count c.in_default.ensures.none

pub returns-in_err-bodies-clause-refused : goal.returns-in_err-bodies-clause-refused
returns-in_err-bodies-clause-refused c = λ damaged.
    let q = err_from_is_err_and c.from_residual.result c.from_residual.ensures.1 in
    no_bodies c.args.catalog.now c.args.p c.args.s c.width.result c.args.text.now c.width.ensures.range.1 c.width.ensures.count c.in-Some.rows c.in-Some.parts.now c.in-Some.ensures.found
    (c.in_err-bodies.ensures.refused (let r1 = q.1 in let r2 = q.2 in cc))
