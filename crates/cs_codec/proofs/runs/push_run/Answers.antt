use Rattle.std.proofs.Common.{◌≡◌, ◌-◌, slice_get, Some, true, false, sym, ◌∙◌, arith}
use Rattle.cs_codec.proofs.RunColumns.{Pushed, cell_at, pushed_same, pushed_other, pushed_first, last_count_fits}
use Rattle.cs_codec.proofs.runs.push_run.Given as given
use Rattle.cs_codec.proofs.runs.push_run.Goals as goal
use Rattle.cs_codec.proofs.runs.push_run.Goals.{else-len-gt0-via-then-len-gt0+else-same, else-len-gt0-via-else-len-gt0}

pub overflow_add-index_mut : goal.overflow_add-index_mut
overflow_add-index_mut g c =
    omega (arith, c.requires.short, last_count_fits g.C.PartialEq.eq (g.L.Column.cells c.args.values.now) c.args.counts.now.items (c.len-len.result - 1) c.index_mut.result.now c.requires.runs (omega arith) c.index_mut.ensures.value)

pub returns-then-same-clause-cells : goal.returns-then-same-clause-cells
returns-then-same-clause-cells g c = λ x h.
    (pushed_same g.C.PartialEq.eq (record { itself = g.met.C.Eq.laws.refl; exact = g.met.C.Cell.exact }) (g.L.Column.cells c.args.values.now) c.args.counts.now.items (c.len-len.result - 1) x c.index_mut.result.now c.requires.runs (omega arith) c.index_mut.ensures.value (c.same.ensures.0 c.if-same.true ∙ h)).cells

pub returns-then-same-clause-runs : goal.returns-then-same-clause-runs
returns-then-same-clause-runs g c =
    let x = cell_at (g.L.Column.cells c.args.column.now) c.args.at c.requires.at in
    (pushed_same g.C.PartialEq.eq (record { itself = g.met.C.Eq.laws.refl; exact = g.met.C.Cell.exact }) (g.L.Column.cells c.args.values.now) c.args.counts.now.items (c.len-len.result - 1) x.cell c.index_mut.result.now c.requires.runs (omega arith) c.index_mut.ensures.value (c.same.ensures.0 c.if-same.true ∙ x.is)).runs

-- the cell has been appended
pushed : (g : given.Over) (c : goal.In_ok-push g) (x : g.row.C.Denot) → slice_get (g.L.Column.cells c.args.column.now) c.args.at ≡ Some x → Pushed g.C.PartialEq.eq (g.L.Column.cells c.args.values.now) c.args.counts.now.items x (g.L.Column.cells c.push_cell.new.self) c.push.new.self.items
pushed g c x h = rw (c.in_ok-push.ensures.items, c.in_ok-push_cell.ensures x h)
    (elim c.else-len-gt0.branch [
      | else-len-gt0-via-then-len-gt0+else-same w ↦ pushed_other g.C.PartialEq.eq (record { itself = g.met.C.Eq.laws.refl; exact = g.met.C.Cell.exact }) (g.L.Column.cells c.args.values.now) c.args.counts.now.items (c.len-len.result - 1) x c.requires.runs (omega arith) (λ e. let clash : true ≡ false = sym (w.same.ensures.1 (e ∙ sym h)) ∙ w.if-same.false in absurd cc)
      | else-len-gt0-via-else-len-gt0 w ↦ pushed_first g.C.PartialEq.eq (g.L.Column.cells c.args.values.now) c.args.counts.now.items x c.requires.runs (omega arith)
    ])

pub returns-clause-cells : goal.returns-clause-cells
returns-clause-cells g c = λ x h. (pushed g c x h).cells

pub returns-clause-runs : goal.returns-clause-runs
returns-clause-runs g c =
    let x = cell_at (g.L.Column.cells c.args.column.now) c.args.at c.requires.at in
    (pushed g c x.cell x.is).runs
