-- Which fault is returned.
use Rattle.std.proofs.Common.{◌≡◌, ℕ, ◌<◌, List, Result, Ok, Err, Some, false, sym, ap, ◌∙◌}
use Rattle.std.specs.Prelude.{length, IfErr}
use Rattle.std.specs.Result.{IsErrAnd}
use Rattle.cs_schema.specs.CatalogData.{CatalogData}
use Rattle.cs_schema.specs.Rows.{Row}
use Rattle.cs_order.specs.Tables.{table_of, is_twice}
use Rattle.cs_order.specs.Numbers.{ProjectionsFitBelow}
use Rattle.cs_order.specs.Faults.{IsRangeFault, IsOrderFault}
use Rattle.cs_order.specs.declared.fault.OrderFault.{OrderFault}
use Rattle.cs_order.proofs.FullRanges.{least_full}

pub err_from : {T E : Type 0} (r : Result T E) (P Q : E → Type 0) → IsErrAnd r P → ((e : E) → P e → Q e) → IfErr r Q
err_from (Ok x) P Q h f = tt
err_from (Err e) P Q h f = f e h

-- the first projection with a full range is refused
pub range_fault : (C : CatalogData) (rows : List Row) (p : ℕ) (fault : OrderFault) → is_twice C rows ≡ false → p < length C.projections → ProjectionsFitBelow C (table_of C rows) p → IsRangeFault C rows p fault → IsOrderFault C rows fault
range_fault C rows p OrderFault.Memory once here fit h = tt
range_fault C rows p OrderFault.Twice once here fit h = absurd h
range_fault C rows p (OrderFault.Full q s) once here fit (same, segment, full, before) =
    (once, least_full C (table_of C rows) p s here segment full before fit ∙ ap (λ (k : ℕ). Some (k, s)) (sym same))
