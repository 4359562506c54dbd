use Rattle.std.proofs.Common.{◌≡◌, ◌-◌, ◌<◌, ℕ, length, []}
use Rattle.std.specs.Prelude.{slice_index_or}
use Rattle.std.specs.List.{AllZip, range_with_len}
use Rattle.cs_order.specs.Tables.{table_of}
use Rattle.cs_order.specs.Numbers.{AreSegmentsOf, ProjectionsFitBelow}
use Rattle.cs_order.specs.Places.{segment_lists, HavePlaces}
use Rattle.cs_order.specs.Sides.{IsOrderOrFault}
use Rattle.cs_order.proofs.parallel.table_orders.Given as goal

abbrev pub invariant-loop-p : goal.invariant-loop-p
invariant-loop-p g l = record {
  count : length l.projections.items ≡ l._p;
  each : (q : ℕ) → q < l._p → AreSegmentsOf l.catalog l.walked.rows q (slice_index_or (segment_lists l.projections.items) q []);
  places : HavePlaces (length l.walked.rows) l.projections.items;
  fit : ProjectionsFitBelow l.catalog (table_of l.catalog l.walked.rows) l._p;
  left : AllZip (IsOrderOrFault l.catalog l.walked.rows) (range_with_len l._p (length l.catalog.projections - l._p)) l.made.items;
}
