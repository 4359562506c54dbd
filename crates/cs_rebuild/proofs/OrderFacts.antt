-- The place of a row in the orders.
use Rattle.std.proofs.Common.{◌≡◌, ℕ, ◌<◌, List, [], length, refl, sym, ap, ◌∙◌, Bool, true, false, Some, arith, get_or}
use Rattle.std.specs.Prelude.{nat_lt}
use Rattle.std.specs.List.{slice_get}
use Rattle.std.proofs.lemmas.List.{get_or_past, length-map}
use Rattle.std.proofs.lemmas.Option.{none-some, slice_get_within, slice_get_past}
use borrow.Author.Tests.{ltb-true, lt-ltb}
use Rattle.cs_schema.specs.CatalogData.{CatalogData, segments}
use Rattle.cs_schema.specs.Order.{rows_of, row_limit}
use Rattle.cs_schema.specs.Rows.{Row}
use Rattle.cs_schema.proofs.Ascending.{false≢true}
use Rattle.cs_schema.proofs.Lists.{slice_get_map}
use Rattle.cs_order.specs.Orders.{OrdersData, numbers_in, row_at}
use Rattle.cs_order.specs.Tables.{table_of}
use Rattle.cs_rebuild.specs.StoreFacts.{HaveOrders, AreInOrder, HaveRoomInRanges}

module _ (C : CatalogData) (rows : List Row) (o : OrdersData) (room : HaveOrders C o) (each : AreInOrder C rows o) where
  -- a place is in a segment that exists
  pub segment_there : (q u i row : ℕ) → q < length C.projections → slice_get (numbers_in o q u) i ≡ Some row → u < segments C q
  segment_there q u i row h at = go (nat_lt u (segments C q)) refl
    where
      go : (b : Bool) → nat_lt u (segments C q) ≡ b → u < segments C q
      go true e = ltb-true u (segments C q) e
      go false e =
          let low : u < segments C q → ⊥ = λ k. false≢true (sym e ∙ lt-ltb u (segments C q) k) in
          let long = (room q h).1 in
          let none : numbers_in o q u ≡ [] = get_or_past (get_or o.segments q []) u [] (omega (arith, long)) in
          absurd (none-some row (sym (slice_get_past [] i (omega arith)) ∙ sym (ap (λ l. slice_get l i) none) ∙ at))

  -- the row of the table at a place
  pub row_there : (q u i row : ℕ) → q < length C.projections → slice_get (numbers_in o q u) i ≡ Some row → slice_get (rows_of C (table_of C rows) q u) i ≡ Some (row_at rows row)
  row_there q u i row h at = sym (ap (λ l. slice_get l i) (each q u h)) ∙ slice_get_map (row_at rows) (numbers_in o q u) i row at

  pub count_there : (q u : ℕ) → q < length C.projections → length (rows_of C (table_of C rows) q u) ≡ length (numbers_in o q u)
  count_there q u h = sym (ap length (each q u h)) ∙ length-map (numbers_in o q u) (row_at rows)

  pub index_limit : HaveRoomInRanges C o → (q u i row : ℕ) → q < length C.projections → slice_get (numbers_in o q u) i ≡ Some row → i < row_limit
  index_limit ranges q u i row h at =
      let inside = slice_get_within (numbers_in o q u) i row at in
      let few = ranges q u (h, segment_there q u i row h at) in
      omega (arith, inside, few)
