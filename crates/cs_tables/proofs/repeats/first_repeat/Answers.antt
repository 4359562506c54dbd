use Rattle.std.proofs.Common.{arith, sym}
use Rattle.std.proofs.lemmas.Option.{get_or_from_slice_get, none-some}
use Rattle.std.specs.Prelude.{pos}
use Rattle.cs_schema.specs.Values.{values}
use Rattle.cs_schema.specs.declared.cells.Value.{Value}
use Rattle.cs_tables.proofs.RepeatLemmas.{seen-more}
use Rattle.cs_tables.proofs.repeats.first_repeat.Goals as goal

pub loop-again-init : goal.loop-again-init
loop-again-init c = record {
  known = λ j l. absurd (omega arith);
  placed = λ k v e. absurd (none-some v (rw c.new-seen.ensures.empty at e));
  distinct = λ i j l k. absurd (omega arith);
}

pub returns-in-Some-clause-some : goal.returns-in-Some-clause-some
returns-in-Some-clause-some c =
    let keys = values c.args.cells.now in
    let at = c.loop-again.invariant.placed c.cell-key.result c.in-Some.first.now (sym c.in-Some.ensures.value) in
    record {
      before = at.0;
      there = omega arith;
      is_first = at.1;
      is_again = get_or_from_slice_get keys c.loop-again.again c.cell-key.result (Value.Int (pos 0)) c.cell-key.ensures.value;
      distinct = c.loop-again.invariant.distinct;
    }

pub loop-again-preserved : goal.loop-again-preserved
loop-again-preserved c =
    let keys = values c.args.cells.now in
    let here = get_or_from_slice_get keys c.loop-again.again c.cell-key.result (Value.Int (pos 0)) c.cell-key.ensures.value in
    seen-more keys c.loop-again.again c.loop-again.seen c.insert.new.self c.cell-key.result c.loop-again.invariant (sym here) (sym c.in_default.ensures.value) c.in_ok-insert.ensures.updates
