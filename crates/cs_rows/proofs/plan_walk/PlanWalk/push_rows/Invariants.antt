use Rattle.std.proofs.Common.{◌≡◌, ◌++◌, map, take}
use Rattle.std.specs.Prelude.{slice_index}
use Rattle.cs_schema.specs.Values.{values, kind_of}
use Rattle.cs_rows.specs.Walk.{image_cell}
use Rattle.cs_rows.specs.Survivors.{contents_of}
use Rattle.cs_rows.proofs.plan_walk.PlanWalk.push_rows.Given as goal

abbrev pub invariant-loop-id : goal.invariant-loop-id
invariant-loop-id l = record {
  kind : kind_of l.cells ≡ kind_of l.fn.cells;
  cells : values l.cells ≡ values l.fn.cells ++ map (image_cell l.self.survivors.now.catalog (contents_of l.self.survivors.now) (slice_index l.self.plan.now.source l.c) l.c) (take l.id-index l.ids);
}
