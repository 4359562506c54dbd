-- What the entries of a join index are looked up with.
use Rattle.std.proofs.Common.{◌≡◌, ℕ, ◌<◌, ◌==◌, ap, sym, ◌∙◌, subst, length, Option, Some, arith, get_or}
use Rattle.std.specs.List.{slice_get}
use Rattle.std.proofs.lemmas.Option.{slice_get-get_or}
use Rattle.std.proofs.lemmas.List.{length-map}
use Rattle.std.proofs.lemmas.List.Quantifiers.{position-Some}
use Rattle.cs_schema.specs.Order.{rows_of}
use Rattle.cs_delta.specs.Image.{ImageData, image_keys, position_of_key}
use Rattle.cs_rows.specs.Survivors.{contents_of}
use Rattle.cs_order.specs.Orders.{row_at}
use Rattle.cs_jix.specs.JoinIndex.{Place}
use Rattle.cs_rebuild.specs.OnStore.{held_on, table_on}
use Rattle.cs_rebuild.specs.declared.ordered_store.OrderedStore.{OrderedStore}
use Rattle.cs_rebuild.specs.declared.places.ExpectedJoinIndex.{ExpectedJoinIndex}
use Rattle.cs_rebuild.proofs.OrderFacts.{row_there, count_there}
use Rattle.cs_diagnosis.specs.Conflicts.{IsKeyConflict}
use Rattle.cs_diagnosis.proofs.Keys.{AreKeysPositive}

-- the position of a key is below the number of rows of the image
pub position_below : (m : ImageData) (key i : ℕ) → position_of_key m key ≡ Some i → i < length m.pairs
position_below m key i e =
    let l = (position-Some (λ x. x == key) (image_keys m) i 0 e).0 in
    omega (arith, l, length-map m.pairs (λ (x : Rattle.cs_delta.specs.Image.Pair). x.0))

module _ (e : ExpectedJoinIndex) where
  abbrev g : OrderedStore
  g = e.store.now

  -- the row at a position, by its number
  pub row_is : (i : ℕ) → i < length e.numbers.now → slice_get (rows_of g.catalog.now (table_on g) e.p e.s) i ≡ Some (row_at g.walked.rows (get_or e.numbers.now i 0))
  row_is i l = row_there g.catalog.now g.walked.rows g.orders g.order_room g.each e.p e.s i (get_or e.numbers.now i 0) e.segment.0 (ap (λ ns. slice_get ns i) (sym e.numbers_are) ∙ slice_get-get_or e.numbers.now i 0 l)

  pub rows_count : length (rows_of g.catalog.now (table_on g) e.p e.s) ≡ length e.numbers.now
  rows_count = count_there g.catalog.now g.walked.rows g.orders g.order_room g.each e.p e.s e.segment.0 ∙ sym (ap length e.numbers_are)

  pub positive : AreKeysPositive g.catalog.now g.loss (contents_of g.survivors.now) g.walked.rows
  positive q t i h l = (g.keys q t i h l).0

-- the conflict of an entry, for an equal store and an equal entry
pub same_conflict : (g h : OrderedStore) → h ≡ g → (p s q a b d : ℕ) → a ≡ p → b ≡ s → d ≡ q → (key : ℕ) (x y : Place) → x ≡ y → (o : Option ℕ)
    → IsKeyConflict h.catalog.now h.loss (held_on h) (table_on h) a b d key x o → IsKeyConflict g.catalog.now g.loss (held_on g) (table_on g) p s q key y o
same_conflict g h same p s q a b d one two three key x y entry o k =
    subst (λ w. IsKeyConflict g.catalog.now g.loss (held_on g) (table_on g) p s q key w o) entry
    (subst (λ n. IsKeyConflict g.catalog.now g.loss (held_on g) (table_on g) p s n key x o) three
    (subst (λ n. IsKeyConflict g.catalog.now g.loss (held_on g) (table_on g) p n d key x o) two
    (subst (λ n. IsKeyConflict g.catalog.now g.loss (held_on g) (table_on g) n b d key x o) one
    (subst (λ (z : OrderedStore). IsKeyConflict z.catalog.now z.loss (held_on z) (table_on z) a b d key x o) same k))))
