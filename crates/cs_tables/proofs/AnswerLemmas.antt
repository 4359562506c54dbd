-- What the steps come to, as what `relayout` answers.
use Rattle.std.proofs.Common.{◌≡◌, ◌≢◌, List, length, map, refl, sym, ap, subst, ◌∙◌, inl, inr}
use Rattle.std.specs.Prelude.{Result, Ok, Err}
use Rattle.cs_schema.specs.CatalogData.{CatalogData}
use Rattle.cs_schema.specs.CatalogRules.{IsCatalog}
use Rattle.cs_schema.specs.FileNames.{FileContents}
use Rattle.cs_schema.specs.Losses.{Sites}
use Rattle.cs_schema.specs.Rows.{Row, IsTable}
use Rattle.cs_schema.specs.declared.cells.Cells.{Cells}
use Rattle.cs_store.specs.FileSet.{contents_of}
use Rattle.cs_store.specs.Fault.{MemoryOr}
use Rattle.cs_store.specs.declared.fault.Fault.{Fault}
use Rattle.cs_safety.specs.Safety.{IsSafe}
use Rattle.cs_recovery.specs.BuildAnswers.{AreTheTable}
use Rattle.cs_recovery.specs.Claims.{IsOnlyTable}
use Rattle.cs_recovery.specs.Columns.{AreColumnsOf, AreTableColumns}
use Rattle.cs_recovery.specs.Holding.{Holds, HoldsSurvivors}
use Rattle.cs_recovery.specs.Verdicts.{IsRebuildVerdict, NamesItsSites}
use Rattle.cs_recovery.proofs.ColumnRows.{are_the_table}
use Rattle.cs_csv.specs.Faults.{cells_at}
use Rattle.cs_tables.specs.Loading.{HoldsTableOf, IsBuildRefusal, IsFull}
use Rattle.cs_tables.specs.Repeats.{AreDistinctBefore}
use Rattle.cs_tables.specs.declared.load_fault.LoadFault.{LoadFault}
use Rattle.cs_tables.specs.declared.load_fault.LoadFault.TheVariants as load
use Rattle.cs_tables.proofs.CountLemmas.{rows-count}
use Rattle.cs_tables.specs.ByName.{AreArranged, by_name}
use Rattle.cs_tables.specs.Relayout.{IsStoreFaultOf, IsSurvivingTable, LaysOut, MakesStore, MayFollow}
use Rattle.cs_tables.specs.declared.load_fault.FullRange.{FullRange}
use Rattle.cs_tables.specs.declared.relayout_fault.RelayoutFault.{RelayoutFault}
use Rattle.cs_tables.specs.declared.relayout_fault.RelayoutFault.TheVariants as fault
use Rattle.cs_tables.specs.declared.laying.Relaid.{Relaid}
use Rattle.cs_tables.proofs.DifferenceLemmas.{alike}
use Rattle.cs_tables.proofs.RowLemmas.{AreAlike, by_name-table}
use Rattle.cs_tables.proofs.RelayoutTableLemmas.{arranged-columns, keys_differ, one_table}

pub store-refused : (old : CatalogData) (F : FileContents) (L : Sites) (new : CatalogData) (e : Fault) (f : RelayoutFault) → MayFollow old new → MemoryOr e (IsRebuildVerdict old F L (Err e)) → IsStoreFaultOf e f → LaysOut old F L new (Err f)
store-refused old F L new e fault.Memory may h is = tt
store-refused old F L new e (fault.Differs d) may h is = absurd is
store-refused old F L new e fault.Unsafe may h is = absurd is
store-refused old F L new e (fault.Full full) may h is = absurd is
store-refused old F L new e (fault.Store f) may (inl memory) is = absurd (is.1 memory)
store-refused old F L new e (fault.Store f) may (inr verdict) is = (may, λ m. is.1 (is.0 ∙ m), subst (λ (x : Fault). IsRebuildVerdict old F L (Err x)) is.0 verdict)

-- of rows with different keys no key stands twice, and they come from no text
pub no-other : (C : CatalogData) (cells : List Cells) (f : LoadFault) → AreDistinctBefore (cells_at cells C.key) (length (cells_at cells C.key)) → IsBuildRefusal C cells f → f ≢ load.Memory → ((full : FullRange) → f ≢ load.Full full) → ⊥
no-other C cells load.Memory keys h memory full = memory refl
no-other C cells load.Unsafe keys h memory full = h
no-other C cells (load.Text f) keys h memory full = h
no-other C cells (load.Twice repeat) keys h memory full = keys repeat.first repeat.again h.before h.there (h.is_first ∙ sym h.is_again)
no-other C cells (load.Full range) keys h memory full = full range refl

-- the one table that the survivors hold, and its columns
abbrev pub IsTableInColumns : CatalogData → FileContents → Sites → List Cells → Type 0
IsTableInColumns old F L columns = NamesItsSites old L × IsSafe old L × ((T : List Row) × IsOnlyTable (HoldsSurvivors old F L) T × AreColumnsOf old T columns)

module _ (old : CatalogData) (F : FileContents) (L : Sites) (new : CatalogData) (old-rules : IsCatalog old) (new-rules : IsCatalog new) (may : MayFollow old new) (columns arranged : List Cells) (told : IsTableInColumns old F L columns) (moved : AreArranged old.columns new.columns columns arranged) where
  same : AreAlike old new
  same = alike old new old-rules new-rules may.same

  abbrev laid : List Row
  laid = map (by_name old new) told.2.0

  is_table : IsTable new laid
  is_table = by_name-table old new same told.2.0 told.2.1.0.table

  new_columns : AreColumnsOf new laid arranged
  new_columns = arranged-columns old new same told.2.0 columns arranged told.2.2 moved

  the_table : AreTheTable new laid arranged
  the_table = are_the_table new new-rules laid is_table arranged new_columns

  survives : IsSurvivingTable old F L new laid
  survives = record { sites = told.0; safe = told.1; table = told.2.0; only = told.2.1; is = refl }

  pub build-columns : AreTableColumns new arranged
  build-columns = the_table.fit

  pub build-keys : AreDistinctBefore (cells_at arranged new.key) (length (cells_at arranged new.key))
  build-keys = keys_differ new new-rules laid is_table arranged new_columns

  pub laid-out : (r : Result Relaid RelayoutFault) → MakesStore new arranged r → LaysOut old F L new r
  laid-out (Ok relaid) h =
      let held = subst (λ (rows : List Row). HoldsTableOf new rows (contents_of relaid.files)) the_table.rows h.0 in
      let table : held.table ≡ laid = one_table new held.table laid held.is_table is_table held.within held.all in
      record {
        may = may;
        table = laid;
        survives = survives;
        holds = subst (Holds new (contents_of relaid.files)) table held.holds;
        count = h.1 ∙ sym (rows-count arranged) ∙ ap length the_table.rows;
      }
  laid-out (Err fault.Memory) h = tt
  laid-out (Err (fault.Differs d)) h = absurd h
  laid-out (Err fault.Unsafe) h = absurd h
  laid-out (Err (fault.Store e)) h = absurd h
  laid-out (Err (fault.Full full)) h = record { may = may; table = laid; survives = survives; is = subst (λ (rows : List Row). IsFull new rows full) the_table.rows h }
