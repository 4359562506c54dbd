use Rattle.std.proofs.Common.{◌≡◌, ◌-◌, Some, true, false, sym, ap, ◌∙◌, arith}
use Rattle.cs_codec.proofs.RunColumns.{Pushed, same_cell, pushed_same, pushed_other, pushed_first, last_count_fits}
use Rattle.cs_codec.proofs.runs.push_cell.Given as given
use Rattle.cs_codec.proofs.runs.push_cell.Goals as goal
use Rattle.cs_codec.proofs.runs.push_cell.Goals.{else-len-gt0-via-then-len-gt0+else-eq, else-len-gt0-via-else-len-gt0}

pub overflow_add-index_mut : goal.overflow_add-index_mut
overflow_add-index_mut g c =
    omega (arith, c.requires.short, last_count_fits g.C.PartialEq.eq (g.L.Column.cells c.args.values.now) c.args.counts.now.items (c.len-len.result - 1) c.index_mut.result.now c.requires.runs (omega arith) c.index_mut.ensures.value)

pub returns-then-eq-clause-cells : goal.returns-then-eq-clause-cells
returns-then-eq-clause-cells g c =
    (pushed_same g.C.PartialEq.eq (record { itself = g.met.C.Eq.laws.refl; exact = g.met.C.Cell.exact }) (g.L.Column.cells c.args.values.now) c.args.counts.now.items (c.len-len.result - 1) c.args.cell.now c.index_mut.result.now c.requires.runs (omega arith) c.index_mut.ensures.value (c.cell.ensures ∙ ap Some (g.met.C.Cell.exact c.cell.result c.args.cell.now (sym c.if-eq.ensures)))).cells

pub returns-then-eq-clause-runs : goal.returns-then-eq-clause-runs
returns-then-eq-clause-runs g c =
    (pushed_same g.C.PartialEq.eq (record { itself = g.met.C.Eq.laws.refl; exact = g.met.C.Cell.exact }) (g.L.Column.cells c.args.values.now) c.args.counts.now.items (c.len-len.result - 1) c.args.cell.now c.index_mut.result.now c.requires.runs (omega arith) c.index_mut.ensures.value (c.cell.ensures ∙ ap Some (g.met.C.Cell.exact c.cell.result c.args.cell.now (sym c.if-eq.ensures)))).runs

-- the cell has been appended
pushed : (g : given.Over) (c : goal.In_ok-push g) → Pushed g.C.PartialEq.eq (g.L.Column.cells c.args.values.now) c.args.counts.now.items c.args.cell.now (g.L.Column.cells c.repeat.new.self) c.push.new.self.items
pushed g c = rw (c.in_ok-push.ensures.items, c.in_ok-repeat.ensures)
    (elim c.else-len-gt0.branch [
      | else-len-gt0-via-then-len-gt0+else-eq w ↦ pushed_other g.C.PartialEq.eq (record { itself = g.met.C.Eq.laws.refl; exact = g.met.C.Cell.exact }) (g.L.Column.cells c.args.values.now) c.args.counts.now.items (c.len-len.result - 1) c.args.cell.now c.requires.runs (omega arith)
          (λ e. let one = same_cell w.cell.result c.args.cell.now (sym w.cell.ensures ∙ e) in
          let clash : true ≡ false = sym (g.met.C.Eq.laws.refl c.args.cell.now) ∙ ap (λ z. g.C.PartialEq.eq z c.args.cell.now) (sym one) ∙ sym w.if-eq.ensures in absurd cc)
      | else-len-gt0-via-else-len-gt0 w ↦ pushed_first g.C.PartialEq.eq (g.L.Column.cells c.args.values.now) c.args.counts.now.items c.args.cell.now c.requires.runs (omega arith)
    ])

pub returns-clause-cells : goal.returns-clause-cells
returns-clause-cells g c = (pushed g c).cells

pub returns-clause-runs : goal.returns-clause-runs
returns-clause-runs g c = (pushed g c).runs
