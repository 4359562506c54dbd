use Rattle.std.proofs.Common.{arith, rules, ◌≡◌, true, false}
use Rattle.std.specs.Ordering.{is_ge}
use Rattle.cs_codec.proofs.NumberedColumns.{rises_sorted, rises_more, next_above, is_less, not_less}
use Rattle.cs_codec.proofs.numbered.ascend.Goals as goal

pub returns-then-is_ge-clause-no : goal.returns-then-is_ge-clause-no
returns-then-is_ge-clause-no g c = λ said sorted.
    let less = next_above g.C.Ord.cmp (g.L.Column.cells c.args.values.now) c.loop-at.at c.cell.result c.cell-in-loop-at.result (omega arith) c.cell.ensures c.cell-in-loop-at.ensures sorted in
    let above : is_ge c.cmp.result ≡ true = search rules in
    not_less c.cmp.result (g.C.Ord.cmp c.cell.result c.cell-in-loop-at.result) c.cmp.ensures above less

pub loop-at-preserved : goal.loop-at-preserved
loop-at-preserved g c =
    let below : is_ge c.cmp.result ≡ false = search rules in
    rises_more g.C.Ord.cmp (g.L.Column.cells c.args.values.now) c.loop-at.at c.cell.result c.cell-in-loop-at.result (omega arith) c.cell.ensures c.cell-in-loop-at.ensures (is_less c.cmp.result (g.C.Ord.cmp c.cell.result c.cell-in-loop-at.result) c.cmp.ensures below) c.loop-at.invariant

pub returns-clause-yes : goal.returns-clause-yes
returns-clause-yes g c = λ said.
    rises_sorted g.C.Ord.cmp g.met.C.Ord.total (g.L.Column.cells c.args.values.now) (λ k d lt. c.loop-at.invariant k d (omega arith))
