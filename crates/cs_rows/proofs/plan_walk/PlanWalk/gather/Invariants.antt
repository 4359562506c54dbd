use Rattle.std.proofs.Common.{◌≡◌, map, take}
use Rattle.cs_schema.specs.CatalogData.{column}
use Rattle.cs_schema.specs.Rows.{cell}
use Rattle.cs_schema.specs.Values.{values, kind_of}
use Rattle.cs_rows.specs.PlanWalks.{followed_rows}
use Rattle.cs_rows.proofs.plan_walk.PlanWalk.gather.Given as goal

abbrev pub invariant-loop-part : goal.invariant-loop-part
invariant-loop-part l = record {
  kind : kind_of l.cells ≡ (column l.self.survivors.now.catalog l.c).kind;
  cells : values l.cells ≡ map (λ row. cell row l.c) (followed_rows l.self (take l.part-index l.parts));
}
