use Rattle.std.proofs.Common.{arith}
use Rattle.std.proofs.lemmas.List.{length_push}
use Rattle.cs_codec.proofs.PlainLemmas.{one_more_stands, nothing_left, plain_more, all-push}
use Rattle.cs_codec.proofs.plain.PlainColumnEncoding.read.Goals as goal

pub returns-in_default-clause-not_a_text : goal.returns-in_default-clause-not_a_text
returns-in_default-clause-not_a_text g c = λ _ others h.
    one_more_stands g.C.Cell.bytes g.C.Cell.is_cell g.met.C.Cell.begins_one g.met.C.Cell.some_bytes c.args.bytes.now c.args.rows c.loop.at (g.L.Column.cells c.loop.column) others c.loop.invariant.hold c.loop.invariant.so_far (omega arith) h (rw c.in_default.is at c.in_ok-end.ensures.none)

pub loop-preserved : goal.loop-preserved
loop-preserved g c =
    let found = rw c.in-Some.is at c.in_ok-end.ensures.found in
    rw found.added (record {
      so_far = plain_more g.C.Cell.bytes g.C.Cell.is_cell c.args.bytes.now c.loop.at c.in-Some.end (g.L.Column.cells c.loop.column) found.cell c.loop.invariant.so_far found.stands;
      hold = all-push g.C.Cell.is_cell (g.L.Column.cells c.loop.column) found.cell c.loop.invariant.hold found.stands.holds;
      count = omega (arith, length_push (g.L.Column.cells c.loop.column) found.cell);
      within = found.stands.within;
    })

pub returns-then-at-bytes-clause-not_a_text : goal.returns-then-at-bytes-clause-not_a_text
returns-then-at-bytes-clause-not_a_text g c = λ _ others h.
    let i = c.loop.invariant in
    let none = nothing_left g.C.Cell.bytes g.C.Cell.is_cell g.met.C.Cell.begins_one g.met.C.Cell.some_bytes c.args.bytes.now c.args.rows c.loop.at (g.L.Column.cells c.loop.column) others i.hold i.so_far (omega arith) h in
    absurd (omega (arith, none))
