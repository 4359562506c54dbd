use Rattle.std.proofs.Common.{◌≡◌, ◌-◌, true, false, sym, ◌∙◌, arith}
use Rattle.cs_codec.proofs.RunColumns.{Joined, joined_at, joined_apart, joined_none, joined_no_more, last_count_fits, first_count_fits}
use Rattle.cs_codec.proofs.runs.append_runs.Given as given
use Rattle.cs_codec.proofs.runs.append_runs.Goals as goal
use Rattle.cs_codec.proofs.runs.append_runs.Goals.{then-len-gt0+then-more-gt0+then-same, else-len-gt0, else-len-gt0-via-then-len-gt0+then-more-gt0+else-same, else-len-gt0-via-then-len-gt0+else-more-gt0, else-len-gt0-via-else-len-gt0}

pub overflow_add-index_mut : goal.overflow_add-index_mut
overflow_add-index_mut g c =
    omega (arith, c.requires.short, last_count_fits g.C.PartialEq.eq (g.L.Column.cells c.args.values.now) c.args.counts.now.items (c.len-len.result - 1) c.index.result.now c.requires.runs (omega arith) c.index.ensures, first_count_fits g.C.PartialEq.eq (g.L.Column.cells c.args.others) c.args.other_counts.items c.index_mut.result.now c.requires.others (omega arith) c.index_mut.ensures.value)

-- the runs have been appended
joined : (g : given.Over) (c : goal.After-drop-other_counts-2 g) → Joined g.C.PartialEq.eq (g.L.Column.cells c.args.values.now) (g.L.Column.cells c.args.others) c.args.counts.now.items c.args.other_counts.items (g.L.Column.cells c.append.new.self) c.append-2.new.self.items
joined g c =
    let vs = g.L.Column.cells c.args.values.now in
    let ws = g.L.Column.cells c.args.others in
    let cs = c.args.counts.now.items in
    let ds = c.args.other_counts.items in
    let k = c.len-len.result - 1 in
    rw (c.in_ok-append.ensures, c.in_ok-append-2.ensures.items)
    (elim c.if-len-gt0.branch [
      | then-len-gt0+then-more-gt0+then-same w ↦ rw (w.values-is, w.counts-is, w.other_counts-is, w.truncate.ensures, w.truncate-then-same.ensures.items)
          (joined_at g.C.PartialEq.eq (record { itself = g.met.C.Eq.laws.refl; exact = g.met.C.Cell.exact }) vs ws cs ds k w.index.result.now w.index_mut.result.now c.requires.runs c.requires.others (omega arith) (omega arith) w.index.ensures w.index_mut.ensures.value (w.same.ensures.0 w.if-same.true))
      | else-len-gt0 w ↦ rw (w.values-is, w.counts-is, w.other_counts-is)
          (elim w.else-len-gt0.branch [
            | else-len-gt0-via-then-len-gt0+then-more-gt0+else-same v ↦
                joined_apart g.C.PartialEq.eq (record { itself = g.met.C.Eq.laws.refl; exact = g.met.C.Cell.exact }) vs ws cs ds k c.requires.runs c.requires.others (omega arith) (λ e. let clash : true ≡ false = sym (v.same.ensures.1 e) ∙ v.if-same.false in absurd cc)
            | else-len-gt0-via-then-len-gt0+else-more-gt0 v ↦ joined_no_more g.C.PartialEq.eq vs ws cs ds c.requires.runs c.requires.others (omega arith)
            | else-len-gt0-via-else-len-gt0 v ↦ joined_none g.C.PartialEq.eq vs ws cs ds c.requires.runs c.requires.others (omega arith)
          ])
    ])

pub returns-clause-cells : goal.returns-clause-cells
returns-clause-cells g c = (joined g c).cells

pub returns-clause-runs : goal.returns-clause-runs
returns-clause-runs g c = (joined g c).runs
