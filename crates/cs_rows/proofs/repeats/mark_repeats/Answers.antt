use Rattle.std.proofs.Common.{List, Bool, ◌+◌, ◌-◌, sym, ap, ◌∙◌, subst, arith}
use Rattle.cs_schema.specs.Values.{values}
use Rattle.cs_rows.proofs.RepeatLemmas.{Marked, below, marked_tied, marked_free, all_marked}
use Rattle.cs_rows.proofs.repeats.mark_repeats.Goals as goal
use Rattle.cs_rows.proofs.repeats.mark_repeats.Goals.{then-same, else-same}

pub same-requires-clause-here : goal.same-requires-clause-here
same-requires-clause-here c = below (values c.args.keys.now) c.args.sorted.now c.requires.permutation c.requires.sorted (c.loop-next.next - 1) 0 (omega arith)

pub same-requires-clause-there : goal.same-requires-clause-there
same-requires-clause-there c = below (values c.args.keys.now) c.args.sorted.now c.requires.permutation c.requires.sorted c.loop-next.next 0 c.loop-next-test.true

pub bounds-marks-sorted : goal.bounds-marks-sorted
bounds-marks-sorted c = omega (arith, below (values c.args.keys.now) c.args.sorted.now c.requires.permutation c.requires.sorted c.loop-next.next 0 c.loop-next-test.true, c.loop-next.invariant.count)

pub loop-next-preserved : goal.loop-next-preserved
loop-next-preserved c =
    elim c.if-same.branch [
      | then-same w ↦
          subst (λ (l : List Bool). Marked (values c.args.keys.now) c.args.sorted.now l (c.loop-next.next + 1)) (sym w.marks-is)
          (marked_tied (values c.args.keys.now) c.args.sorted.now c.requires.permutation c.requires.sorted c.loop-next.marks c.loop-next.next (omega arith) c.loop-next-test.true c.loop-next.invariant (c.same.ensures.0 w.if-same.true))
      | else-same w ↦
          subst (λ (l : List Bool). Marked (values c.args.keys.now) c.args.sorted.now l (c.loop-next.next + 1)) (sym w.marks-is)
          (marked_free (values c.args.keys.now) c.args.sorted.now c.requires.permutation c.requires.sorted c.loop-next.marks c.loop-next.next (omega arith) c.loop-next-test.true c.loop-next.invariant
          (λ e. Rattle.std.proofs.Common.true≢false (sym (c.same.ensures.1 e) ∙ w.if-same.false)))
    ]

pub returns : goal.returns
returns c = all_marked (values c.args.keys.now) c.args.sorted.now c.requires.permutation c.requires.sorted c.loop-next.marks c.loop-next.next (omega arith) c.loop-next.invariant
