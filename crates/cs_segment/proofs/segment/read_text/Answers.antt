use Rattle.std.proofs.Common.{arith}
use Rattle.std.proofs.lemmas.Result.{err_from_is_err_and}
use Rattle.cs_segment.proofs.ReaderLemmas.{no_column, segment_read}
use Rattle.cs_segment.proofs.segment.read_text.Goals as goal

pub returns-in_err-columns : goal.returns-in_err-columns
returns-in_err-columns c =
    let q = err_from_is_err_and c.from_residual-in_err-columns.result c.from_residual-in_err-columns.ensures.1 in
    let none = no_column c.args.catalog.now c.args.p c.args.s c.args.text.now c.in_ok-reader.reader c.in_ok-reader.ensures.found c.requires in
    rw q.1 (record { found = tt; refused = λ damaged. none (c.in_err-columns.ensures.refused (let r2 = q.2 in cc)); only = tt })

pub returns : goal.returns
returns c =
    segment_read c.args.catalog.now c.args.p c.args.s c.args.text.now c.in_ok-reader.reader c.in_ok-reader.ensures.found c.requires c.in_ok-columns.columns.items c.len.result (omega arith) c.in_ok-columns.ensures.found
