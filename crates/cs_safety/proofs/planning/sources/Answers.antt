use Rattle.std.proofs.Common.{arith, sym, ◌∙◌}
use Rattle.cs_schema.proofs.Ascending.{false≢true}
use Rattle.cs_safety.specs.PlanTests.{IsNearestHolder}
use Rattle.cs_safety.proofs.Arrays.{push_below}
use Rattle.cs_safety.proofs.planning.sources.Goals as goal

pub returns-in_err-nearest-clause-none : goal.returns-in_err-nearest-clause-none
returns-in_err-nearest-clause-none c e s =
    let f = s.columns c.loop-column.column c.loop-column-test.true in
    false≢true (sym (c.in_err-nearest.ensures f.0 f.1) ∙ f.2)

pub loop-column-preserved : goal.loop-column-preserved
loop-column-preserved c =
    let size = c.loop-column.invariant.size in
    record {
      size = let l = c.push.ensures.len in omega (arith, l, size);
      each = push_below (λ k q. IsNearestHolder c.args.graph.now c.args.levels.now.allowed c.args.levels.now.start k q) c.loop-column.found.items c.push.new.self.items c.loop-column.column c.in_ok-nearest.field-0 c.push.ensures.items size c.loop-column.invariant.each c.in_ok-nearest.ensures;
    }
