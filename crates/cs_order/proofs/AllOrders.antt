-- The row numbers of all segments are the orders of the rows.
use Rattle.std.proofs.Common.{◌≡◌, ◌≤◌, ℕ, ◌<◌, List, [], ⊎_elim, false, length, map, get_or, ap, sym, ◌∙◌, subst, arith}
use Rattle.std.specs.Prelude.{All}
use Rattle.std.proofs.lemmas.Bool.{cases_lt}
use Rattle.std.proofs.lemmas.List.{get_or_past}
use Rattle.cs_schema.specs.CatalogData.{CatalogData, segments}
use Rattle.cs_schema.specs.Rows.{Row}
use Rattle.cs_schema.specs.Order.{rows_of}
use Rattle.cs_order.specs.Tables.{table_of, is_twice}
use Rattle.cs_order.specs.Orders.{OrdersData, numbers_in, row_at, AreOrdersOf}
use Rattle.cs_order.specs.Numbers.{AreSegmentsOf}
use Rattle.cs_order.proofs.TableRows.{numbered_rows, no_rows}

module _ (C : CatalogData) (rows : List Row) (o : OrdersData) (once : is_twice C rows ≡ false) (each : (p : ℕ) → p < length C.projections → AreSegmentsOf C rows p (get_or o.segments p [])) where
  none_past : (p s : ℕ) → p < length C.projections → segments C p ≤ s → numbers_in o p s ≡ []
  none_past p s h far =
      let long : length (get_or o.segments p []) ≡ segments C p = (each p h).count in
      get_or_past (get_or o.segments p []) s [] (omega arith)

  below : (p s : ℕ) → p < length C.projections → All (λ (i : ℕ). i < length rows) (numbers_in o p s)
  below p s h =
      ⊎_elim
      (λ (near : s < segments C p). λ k d inside. (((each p h).numbers s near).only k d inside).0)
      (λ (far : segments C p ≤ s). subst (λ (l : List ℕ). All (λ (i : ℕ). i < length rows) l) (sym (none_past p s h far)) (λ k d inside. absurd (omega arith)))
      (cases_lt s (segments C p))

  listed : (p s : ℕ) → p < length C.projections → map (row_at rows) (numbers_in o p s) ≡ rows_of C (table_of C rows) p s
  listed p s h =
      ⊎_elim
      (λ (near : s < segments C p). numbered_rows C p rows once s (numbers_in o p s) ((each p h).numbers s near))
      (λ (far : segments C p ≤ s). ap (map (row_at rows)) (none_past p s h far) ∙ sym (no_rows C (table_of C rows) p s far))
      (cases_lt s (segments C p))

  pub are_orders_of : o.rows ≡ length rows → length o.segments ≡ length C.projections → AreOrdersOf C rows o
  are_orders_of count long = record { count = count; projections = long; segments = λ p h. (each p h).count; below = below; each = listed }

pub are_orders : (C : CatalogData) (rows : List Row) (o : OrdersData) → is_twice C rows ≡ false → o.rows ≡ length rows → length o.segments ≡ length C.projections → ((p : ℕ) → p < length C.projections → AreSegmentsOf C rows p (get_or o.segments p [])) → AreOrdersOf C rows o
are_orders C rows o once count long each = are_orders_of C rows o once each count long
