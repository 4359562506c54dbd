use Rattle.std.proofs.Common.{◌≡◌, ◌≤◌, ◌*◌, ◌++◌, length, map}
use Rattle.cs_schema.specs.Values.{values, kind_of}
use Rattle.cs_rows.specs.Walk.{walked_cell}
use Rattle.cs_rows.specs.Survivors.{contents_of}
use Rattle.cs_rows.proofs.RangeLemmas.{done, part}
use Rattle.cs_rows.proofs.plan_walk.PlanWalk.push_range.Given as goal

abbrev pub invariant-loop-s : goal.invariant-loop-s
invariant-loop-s l = record {
  small : l.first ≤ l.s * 4294967296;
  kind : kind_of l.cells ≡ kind_of l.fn.cells;
  first : l.first ≡ length (done (contents_of l.self.survivors.now) l.self.plan.now.anchor l.s);
  cells : values l.cells ≡ values l.fn.cells ++ map (λ at. walked_cell l.self.survivors.now.catalog (contents_of l.self.survivors.now) l.self.plan.now at l.c) (part (contents_of l.self.survivors.now) l.self.plan.now.anchor l.fn.range.0 l.fn.range.1 l.s);
}
