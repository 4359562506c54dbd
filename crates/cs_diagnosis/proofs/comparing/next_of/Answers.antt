use Rattle.std.proofs.Common.{arith, inl, inr}
use Rattle.cs_diagnosis.proofs.TableRows.{only_first, only_second}
use Rattle.cs_diagnosis.proofs.comparing.next_of.Goals as goal

pub returns-then-i-row_count : goal.returns-then-i-row_count
returns-then-i-row_count c =
    let past = c.if-i-row_count.true in
    let rows = c.row_count.ensures in
    only_second c.args.catalog.now c.args.first.now c.args.second.now c.requires.first c.requires.second c.args.i c.args.j (omega (arith, past, rows))
    (elim c.requires.some [ inl here ↦ absurd (omega (arith, here, past, rows)) | inr there ↦ there ])

pub returns-then-j-row_count : goal.returns-then-j-row_count
returns-then-j-row_count c =
    let past = c.if-j-row_count.true in
    let rows = c.row_count-2.ensures in
    let before = c.if-i-row_count.false in
    let firsts = c.row_count.ensures in
    only_first c.args.catalog.now c.args.first.now c.args.second.now c.requires.first c.requires.second c.args.i c.args.j (omega (arith, past, rows)) (omega (arith, before, firsts))
