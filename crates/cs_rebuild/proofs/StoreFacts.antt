-- Facts about a store whose rows are in order.
use Rattle.std.proofs.Common.{◌≡◌, ℕ, ◌<◌, ◌≤◌, List, map, length, sym, subst, ap, inl, inr, Option, Some, None, arith, get_or}
use Rattle.std.proofs.lemmas.List.{length-map}
use Rattle.std.specs.Option.{option_or}
use Rattle.std.proofs.lemmas.List.Elements.{All-get_or}
use Rattle.std.proofs.lemmas.Option.{none-some, slice_get-get_or}
use Rattle.cs_schema.specs.CatalogData.{CatalogData, HasSegment, segments}
use Rattle.cs_schema.specs.FileNames.{FileContents}
use Rattle.cs_schema.specs.Losses.{Sites}
use Rattle.cs_schema.specs.Order.{Fits}
use Rattle.cs_schema.specs.Rows.{Row}
use Rattle.cs_delta.specs.Image.{image_keys, ImageData, Pair}
use Rattle.cs_delta.specs.DeltaFile.{key_limit}
use Rattle.cs_jix.specs.JoinIndex.{Place, IsEntry}
use Rattle.cs_order.specs.Orders.{OrdersData, AreOrdersOf, numbers_in, row_at}
use Rattle.cs_order.specs.Tables.{table_of}
use Rattle.cs_rows.specs.Survivors.{SurvivorsData, contents_of}
use Rattle.cs_recovery.specs.Contents.{IsImageOf}
use Rattle.cs_recovery.specs.Holding.{agrees}
use Rattle.cs_recovery.specs.Verdicts.{twice, full}
use Rattle.cs_recovery.proofs.Judged.{full_fits}
use Rattle.cs_recovery.proofs.KeptKinds.{image_kinds}
use Rattle.cs_recovery.proofs.Keyed.{image_keyed}
use Rattle.cs_recovery.specs.Places.{image_after, entry_for, entries_for}
use Rattle.cs_rebuild.specs.declared.ordered_store.OrderedStore.{OrderedStore}
use Rattle.cs_rebuild.specs.OnStore.{held_on, table_on}
use Rattle.cs_rebuild.specs.Steps.{AreRead, row_fault}
use Rattle.cs_rebuild.specs.StoreFacts.{HaveImageRoom, HaveJoinRoom, HaveWidths, HaveKeys, HaveTops, HaveEntries, HaveOrders, AreNumbersBelow, AreInOrder, HaveRoomInRanges}

module _ (C : CatalogData) (v : SurvivorsData) (same : v.catalog ≡ C) where
  pub image_room : HaveImageRoom C v
  image_room p s = subst (λ (D : CatalogData). HasSegment D p s → HasSegment v.catalog p s) same (λ h. h)

  pub join_room : HaveJoinRoom C v
  join_room p s q = subst (λ (D : CatalogData). HasSegment D p s → q < length D.projections → (p < length v.catalog.projections) × (s < segments v.catalog p) × (q < length v.catalog.projections)) same (λ h k. (h.0, h.1, k))

-- the top of an image is at most the limit
top_limit : (C : CatalogData) (F : FileContents) (p s : ℕ) (m : ImageData) → IsImageOf C F p s m → m.top ≤ key_limit
top_limit C F p s m i = let e : m.top ≡ i.changes.top = ap (λ (x : ImageData). x.top) i.image in omega (arith, e, i.delta_file.delta.top_limit)

module _ (C : CatalogData) (F : FileContents) (L : Sites) (v : SurvivorsData) (read : AreRead C F L v) where
  pub widths : HaveWidths C L v
  widths p s x h i = (image_kinds C F p s ((contents_of v).image p s) (read.reads.images p s h) x i).0

  pub tops : HaveTops C L v
  tops p s h = top_limit C F p s ((contents_of v).image p s) (read.reads.images p s h)

  pub keys : HaveKeys C L v
  keys p s i h l =
      let m : ImageData = (contents_of v).image p s in
      let long : i < length (image_keys m) = omega (arith, length-map m.pairs (λ (x : Pair). x.0)) in
      let r = (image_keyed C F p s m (read.reads.images p s h)).range i (get_or (image_keys m) i 0) (slice_get-get_or (image_keys m) i 0 long) in
      (r.0, omega (arith, r.1, tops p s h))

  pub entries : HaveEntries C L v
  entries p s q e h i none = go ((read.reads.joins p s q h).file.each e i)
    where
      go : IsEntry e → e.0 ≡ 0
      go (inl k) = ap (λ (x : Place). x.0) k
      go (inr k) = absurd (omega (arith, k.1, none))

none_or : {X : Type 0} (a b : Option X) → option_or a b ≡ None → b ≡ None
none_or None b e = e
none_or (Some x) b e = absurd (none-some x (sym e))

-- rows without a range that is too large
pub fits : (C : CatalogData) (rows : List Row) → row_fault C rows ≡ None → Fits C (table_of C rows)
fits C rows sound = full_fits C (table_of C rows) (none_or (twice C rows) (full C (table_of C rows)) sound)

module _ (C : CatalogData) (rows : List Row) (o : OrdersData) (are : AreOrdersOf C rows o) where
  pub order_room : HaveOrders C o
  order_room p h = (omega (arith, are.projections, h), are.segments p h)

  pub below : AreNumbersBelow C rows o
  below p s k h l = All-get_or (λ i. i < length rows) (numbers_in o p s) k 0 l (are.below p s h)

  pub each : AreInOrder C rows o
  each p s h = are.each p s h

  pub ranges : row_fault C rows ≡ None → HaveRoomInRanges C o
  ranges sound p s h =
      let fit = fits C rows sound p s h in
      let long : length (map (row_at rows) (numbers_in o p s)) ≡ length (numbers_in o p s) = length-map (numbers_in o p s) (row_at rows) in
      let same = ap length (are.each p s h.0) in
      omega (arith, fit, long, same)

-- ---- what is looked up on a store that equals another

module _ (g h : OrderedStore) (same : h ≡ g) (p s q a b c : ℕ) (one : a ≡ p) (two : b ≡ s) where
  pub same_top : (image_after h.catalog.now h.loss (held_on h) (table_on h) a b).top ≡ (image_after g.catalog.now g.loss (held_on g) (table_on g) p s).top
  same_top = λ i. (image_after (same i).catalog.now (same i).loss (held_on (same i)) (table_on (same i)) (one i) (two i)).top

  pub same_entry : c ≡ q → (key : ℕ) → entry_for h.catalog.now h.loss (held_on h) (table_on h) a b c key ≡ entry_for g.catalog.now g.loss (held_on g) (table_on g) p s q key
  same_entry three key = λ i. entry_for (same i).catalog.now (same i).loss (held_on (same i)) (table_on (same i)) (one i) (two i) (three i) key

  pub same_entries : c ≡ q → entries_for h.catalog.now h.loss (held_on h) (table_on h) a b c ≡ entries_for g.catalog.now g.loss (held_on g) (table_on g) p s q
  same_entries three = λ i. entries_for (same i).catalog.now (same i).loss (held_on (same i)) (table_on (same i)) (one i) (two i) (three i)

  pub same_agreement : c ≡ q → (x : Place) (key : ℕ) → agrees h.catalog.now h.loss c x (entry_for h.catalog.now h.loss (held_on h) (table_on h) a b c key) ≡ agrees g.catalog.now g.loss q x (entry_for g.catalog.now g.loss (held_on g) (table_on g) p s q key)
  same_agreement three x key = λ i. agrees (same i).catalog.now (same i).loss (three i) x (entry_for (same i).catalog.now (same i).loss (held_on (same i)) (table_on (same i)) (one i) (two i) (three i) key)
