-- Facts about a sound store for writing what is lost.
use Rattle.std.proofs.Common.{◌≡◌, ℕ, ◌<◌, List, [], ◌∷◌, map, length, refl, sym, ap, subst, ◌∙◌, Option, Some, None, Ok, pos}
use Rattle.std.specs.Prelude.{slice_index}
use Rattle.std.specs.Option.{option_or}
use Rattle.std.proofs.lemmas.Option.{none-some, slice_get-get_or, get_or_from_slice_get}
use Rattle.cs_schema.specs.declared.cells.Value.{Value}
use Rattle.cs_schema.specs.declared.kinds.Code.{Code}
use Rattle.cs_schema.specs.declared.kinds.Kind.{Kind}
use Rattle.cs_schema.specs.CatalogData.{CatalogData, HasSegment, projection, code_at, kind_at}
use Rattle.cs_schema.specs.CatalogRules.{IsCatalog}
use Rattle.cs_schema.specs.FileNames.{FileContents}
use Rattle.cs_schema.specs.Losses.{Sites}
use Rattle.cs_schema.specs.Order.{Fits, rows_of}
use Rattle.cs_schema.specs.Rows.{IsTable, Row, cell, project}
use Rattle.cs_schema.proofs.Lists.{slice_get_map}
use Rattle.cs_segment.specs.SegmentFile.{IsBase, base_of}
use Rattle.cs_jix.specs.JoinIndex.{IsJoinIndexFile, join_index_text}
use Rattle.cs_rows.specs.Survivors.{SurvivorsData, contents_of}
use Rattle.cs_rows.specs.WalkedView.{WalkedData}
use Rattle.cs_order.specs.Orders.{OrdersData, row_at, numbers_in}
use Rattle.cs_order.specs.Tables.{table_of}
use Rattle.cs_recovery.specs.Places.{entries_for}
use Rattle.cs_recovery.specs.Contents.{Reads}
use Rattle.cs_recovery.specs.Verdicts.{IsWalkedBy, twice, full}
use Rattle.cs_recovery.proofs.Afresh.{base_is, never_falls}
use Rattle.cs_recovery.proofs.Judged.{full_fits, judged_contents, table_of_rows, walked_are_rows}
use Rattle.cs_recovery.proofs.KeptKinds.{walk_keeps_kinds}
use Rattle.cs_recovery.proofs.Read.{layers}
use Rattle.cs_recovery.proofs.RowKinds.{rows_keep_kinds}
use Rattle.cs_recovery.proofs.Whole.{entries_file}
use Rattle.cs_rebuild.specs.Encoding.{Rises, base_at, values_at}
use Rattle.cs_rebuild.specs.StoreFacts.{AreInOrder}
use Rattle.cs_rebuild.specs.Steps.{AreSound, HoldsTable}
use Rattle.cs_rebuild.proofs.Counts.{none_twice}

second_none : {X : Type 0} (a b : Option X) → option_or a b ≡ None → b ≡ None
second_none None b e = e
second_none (Some x) b e = absurd (none-some x (sym e))

-- ---- the columns of some rows

module _ (C : CatalogData) (p : ℕ) (rows : List Row) (j : ℕ) (below : j < length (projection C p).columns) where
  kept_cell : (r : Row) → cell (project C p r) j ≡ cell r (slice_index (projection C p).columns j)
  kept_cell r = get_or_from_slice_get (project C p r) j (cell r (slice_index (projection C p).columns j)) (Value.Int (pos 0)) (slice_get_map (cell r) (projection C p).columns j (slice_index (projection C p).columns j) (slice_get-get_or (projection C p).columns j 0 below))

  pub values_are : (numbers : List ℕ) → map (λ x. cell x j) (map (project C p) (map (row_at rows) numbers)) ≡ values_at C p rows j numbers
  values_are [] = refl
  values_are (n ∷ ns) = ap (λ v. v ∷ map (λ x. cell x j) (map (project C p) (map (row_at rows) ns))) (kept_cell (row_at rows n)) ∙ ap (λ l. cell (row_at rows n) (slice_index (projection C p).columns j) ∷ l) (values_are ns)

-- the rows to which the walk of what was read leads are a table's
pub walked_table : (C : CatalogData) → IsCatalog C → (F : FileContents) (L : Sites) (v : SurvivorsData) → Reads C F L (contents_of v) → (rows : List Row) → IsWalkedBy C.safety C L (contents_of v) (Ok rows) → IsTable C (table_of C rows)
walked_table C cat F L v reads rows walk = table_of_rows C rows (walked_are_rows C F L (walk_keeps_kinds C cat F L) (rows_keep_kinds C cat F L) (contents_of v) reads C.safety rows walk)

-- a sound store holds the table of its walked rows
module _ (C : CatalogData) (cat : IsCatalog C) (F : FileContents) (L : Sites) (v : SurvivorsData) (w : WalkedData) (o : OrdersData) (sound : AreSound C F L v w o) where
  none_full : full C (table_of C w.rows) ≡ None
  none_full = second_none (twice C w.rows) (full C (table_of C w.rows)) sound.rows_sound

  pub holds_table : HoldsTable C F L v w
  holds_table = record {
    table = walked_table C cat F L v sound.read.reads w.rows sound.walked.walk;
    fits = full_fits C (table_of C w.rows) none_full;
    reads = sound.read.reads;
    same = judged_contents C cat L (contents_of v) w.rows (table_of C w.rows) (record { is = refl; once = none_twice C w.rows sound.rows_sound; full = none_full; misplaced = sound.placed; misled = sound.led });
  }

-- the entries of the join indexes of a store that holds its table
module _ (C : CatalogData) (cat : IsCatalog C) (F : FileContents) (L : Sites) (v : SurvivorsData) (w : WalkedData) (sound : HoldsTable C F L v w) where
  abbrev T : List Row
  T = table_of C w.rows

  pub entries_are : (p s q : ℕ) → HasSegment C p s → q < length C.projections → IsJoinIndexFile p s q (join_index_text p s q (entries_for C L (contents_of v) T p s q)) (entries_for C L (contents_of v) T p s q)
  entries_are p s q h k = entries_file C cat (layers C cat) F L (contents_of v) sound.reads T sound.table sound.fits sound.same p s q h k

-- the columns of a segment of a table that fits
module _ (C : CatalogData) (cat : IsCatalog C) (w : WalkedData) (o : OrdersData) (table : IsTable C (table_of C w.rows)) (fit : Fits C (table_of C w.rows)) where
  module _ (p s : ℕ) (there : HasSegment C p s) (each : AreInOrder C w.rows o) where
    abbrev cells_of : ℕ → List Value
    cells_of j = map (λ x. cell x j) (map (project C p) (rows_of C (table_of C w.rows) p s))

    column_values : (j : ℕ) → j < length (projection C p).columns → cells_of j ≡ values_at C p w.rows j (numbers_in o p s)
    column_values j l = ap (λ x. map (λ x. cell x j) (map (project C p) x)) (sym (each p s there.0)) ∙ values_are C p w.rows j l (numbers_in o p s)

    pub rises : (j : ℕ) → j < length (projection C p).columns → code_at C p j ≡ Code.Differences → (kind_at C p j ≡ Kind.Int) × Rises (values_at C p w.rows j (numbers_in o p s))
    rises j l e = let r = never_falls C cat (table_of C w.rows) table fit p s there j l e in (r.0, subst Rises (column_values j l) r.1)

    -- the base of the rows with these numbers is the segment's
    pub base_here : base_at C p w.rows (numbers_in o p s) ≡ base_of C p (map (project C p) (rows_of C (table_of C w.rows) p s))
    base_here = ap (λ xs. base_of C p (map (project C p) xs)) (each p s there.0)

    pub has_base : IsBase C p (base_at C p w.rows (numbers_in o p s))
    has_base = subst (IsBase C p) (sym base_here) (base_is C cat (table_of C w.rows) table fit p s there)
