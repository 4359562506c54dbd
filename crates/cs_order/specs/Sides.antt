-- The orders of projections, which are made in parallel.
use Rattle.std.specs.Prelude.{ℕ, IfOk, IfErr, List, length}
use Rattle.std.specs.declared.result.Result.{Result}
use Rattle.cs_schema.specs.CatalogData.{CatalogData, segments}
use Rattle.cs_schema.specs.Rows.{Row}
use Rattle.cs_order.specs.Tables.{table_of}
use Rattle.cs_order.specs.Numbers.{AreSegmentsOf, RangesFitBelow}
use Rattle.cs_order.specs.Places.{HasPlaces}
use Rattle.cs_order.specs.Faults.{IsRangeFault}
use Rattle.cs_order.specs.declared.fault.OrderFault.{OrderFault}
use Rattle.cs_order.specs.declared.segments.ProjectionOrder.{ProjectionOrder}

-- the segments of a projection, with the places of their rows
pub record IsOrderOf (C : CatalogData) (rows : List Row) (p : ℕ) (o : ProjectionOrder) : Type 0 where
  pub order : AreSegmentsOf C rows p o.segments.items
  pub fit : RangesFitBelow C (table_of C rows) p (segments C p)
  pub places : HasPlaces (length rows) o

-- the order of a projection, or the fault of its ranges
pub record IsOrderOrFault (C : CatalogData) (rows : List Row) (p : ℕ) (r : Result ProjectionOrder OrderFault) : Type 0 where
  pub order : IfOk r (IsOrderOf C rows p)
  pub fault : IfErr r (IsRangeFault C rows p)
