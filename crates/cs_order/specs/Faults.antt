-- Why rows have no orders.
use Rattle.std.specs.Prelude.{◌≡◌, ℕ, ◌<◌, true, false, List, length, Some}
use Rattle.cs_schema.specs.CatalogData.{CatalogData, segments}
use Rattle.cs_schema.specs.Rows.{Row}
use Rattle.cs_schema.specs.Order.{rows_of, row_limit}
use Rattle.cs_order.specs.Tables.{table_of, is_twice}
use Rattle.cs_order.specs.Orders.{first_full}
use Rattle.cs_order.specs.Numbers.{RangesFitBelow}
use Rattle.cs_order.specs.declared.fault.OrderFault.{OrderFault}

-- out of memory, a repeated key, or, if no key repeats, the first range that has too many rows
abbrev pub IsOrderFault : CatalogData → List Row → OrderFault → Type 0
IsOrderFault C rows OrderFault.Memory = Unit {0}
IsOrderFault C rows OrderFault.Twice = is_twice C rows ≡ true
IsOrderFault C rows (OrderFault.Full p s) = (is_twice C rows ≡ false) × (first_full C (table_of C rows) ≡ Some (p, s))

-- out of memory, or the first range of a projection that has too many rows
abbrev pub IsRangeFault : CatalogData → List Row → ℕ → OrderFault → Type 0
IsRangeFault C rows p OrderFault.Memory = Unit {0}
IsRangeFault C rows p OrderFault.Twice = ⊥
IsRangeFault C rows p (OrderFault.Full q s) = (q ≡ p) × (s < segments C p) × (row_limit < length (rows_of C (table_of C rows) p s)) × RangesFitBelow C (table_of C rows) p s
