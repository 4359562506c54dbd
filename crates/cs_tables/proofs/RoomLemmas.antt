-- A table that survives and has room is not refused.
use Rattle.std.proofs.Common.{◌≡◌, ◌≢◌, ℕ, ◌<◌, ◌≤◌, Bool, List, length, map, refl, sym, ap, subst, ◌∙◌, arith, inl, inr, Some, None}
use Rattle.std.specs.Prelude.{Option, Result, Ok, Err, nat_lt}
use Rattle.std.specs.List.{find}
use Rattle.std.specs.Option.{option_map}
use Rattle.std.proofs.lemmas.Bool.{cases_Bool}
use Rattle.std.proofs.lemmas.Option.{none-some}
use borrow.Author.Tests.{ltb-true}
use Rattle.cs_schema.specs.CatalogData.{CatalogData}
use Rattle.cs_schema.specs.CatalogRules.{IsCatalog}
use Rattle.cs_schema.specs.FileNames.{FileContents}
use Rattle.cs_schema.specs.Losses.{Sites, IsLoss}
use Rattle.cs_schema.specs.Order.{Fits, row_limit, rows_of}
use Rattle.cs_schema.specs.Rows.{Row, IsTable}
use Rattle.cs_store.specs.FileSet.{contents_of}
use Rattle.cs_store.specs.declared.fault.Fault.{Fault}
use Rattle.cs_safety.specs.Safety.{IsSafe}
use Rattle.cs_order.specs.Tables.{all_segments, is_twice}
use Rattle.cs_recovery.specs.BuildAnswers.{build_fault}
use Rattle.cs_recovery.specs.Holding.{Holds, HoldsSurvivors}
use Rattle.cs_recovery.specs.Verdicts.{IsRebuildVerdict, full}
use Rattle.cs_recovery.proofs.ColumnRows.{table_itself}
use Rattle.cs_recovery.proofs.Exact.{all_are_segments}
use Rattle.cs_recovery.proofs.Read.{layers}
use Rattle.cs_recovery.proofs.RowLists.{find_in}
use Rattle.cs_recovery.proofs.TableClauses.{table_clauses}
use Rattle.cs_tables.specs.ByName.{by_name}
use Rattle.cs_tables.specs.RelayoutLaws.{IsHeldOrMemory}
use Rattle.cs_tables.specs.Relayout.{LaysOut, MayFollow}
use Rattle.cs_tables.specs.declared.relayout_fault.RelayoutFault.{RelayoutFault}
use Rattle.cs_tables.specs.declared.relayout_fault.RelayoutFault.TheVariants as fault
use Rattle.cs_tables.specs.declared.laying.Relaid.{Relaid}
use Rattle.cs_tables.proofs.DifferenceLemmas.{alike}
use Rattle.cs_tables.proofs.RowLemmas.{by_name-table}

-- no verdict refuses survivors that hold a table
no_refusal : (C : CatalogData) → IsCatalog C → (F : FileContents) (L : Sites) (T : List Row) → IsLoss C L → IsSafe C L → HoldsSurvivors C F L T → (e : Fault) → e ≢ Fault.Memory → IsRebuildVerdict C F L (Err e) → ⊥
no_refusal C cat F L T loss safe holds e other verdict =
    let clauses = table_clauses C cat (layers C cat) F L (λ n. loss) (Err e) (inr verdict) in
    other (clauses.gives T (λ x m. (loss.1 x m).1) safe holds)

-- a table with room in each range fills none
has_room : (C : CatalogData) (T : List Row) → IsTable C T → Fits C T → (p s : ℕ) → build_fault C T ≡ Some (Fault.Full p s) → ⊥
has_room C T t fits p s e = elim (cases_Bool (is_twice C T)) [
  | inl twice ↦ absurd (cc (rw twice at e))
  | inr once ↦ none_full (find test (all_segments C)) refl (subst (λ (U : List Row). full C U ≡ Some (Fault.Full p s)) (table_itself C T t) (rw once at e))
]
  where
    test : ℕ × ℕ → Bool
    test a = nat_lt row_limit (length (rows_of C T a.0 a.1))

    none_full : (o : Option (ℕ × ℕ)) → find test (all_segments C) ≡ o → option_map (λ (a : ℕ × ℕ). Fault.Full a.0 a.1) (find test (all_segments C)) ≡ Some (Fault.Full p s) → ⊥
    none_full None is h = none-some (Fault.Full p s) (rw is at h)
    none_full (Some a) is h =
        let found = find_in test (all_segments C) a is in
        let room : length (rows_of C T a.0 a.1) ≤ row_limit = fits a.0 a.1 (all_are_segments C a found.0) in
        let over : row_limit < length (rows_of C T a.0 a.1) = ltb-true row_limit (length (rows_of C T a.0 a.1)) found.1 in
        absurd (omega (arith, room, over))

pub not_refused : (old new : CatalogData) → IsCatalog old → IsCatalog new → MayFollow old new → (F : FileContents) (L : Sites) (T : List Row) → IsLoss old L → IsSafe old L → HoldsSurvivors old F L T
    → Fits new (map (by_name old new) T) → (r : Result Relaid RelayoutFault) → LaysOut old F L new r → IsHeldOrMemory new (map (by_name old new) T) r
not_refused old new old-rules new-rules may F L T loss safe holds fits (Ok relaid) a =
    let same : T ≡ a.survives.table = a.survives.only.1 T holds in
    subst (Holds new (contents_of relaid.files)) (a.survives.is ∙ ap (map (by_name old new)) (sym same)) a.holds
not_refused old new old-rules new-rules may F L T loss safe holds fits (Err fault.Memory) a = refl
not_refused old new old-rules new-rules may F L T loss safe holds fits (Err (fault.Differs d)) a = absurd (none-some d (sym may.same ∙ a))
not_refused old new old-rules new-rules may F L T loss safe holds fits (Err fault.Unsafe) a = absurd (a.1 may.safe)
not_refused old new old-rules new-rules may F L T loss safe holds fits (Err (fault.Store e)) a = absurd (no_refusal old old-rules F L T loss safe holds e a.1 a.2)
not_refused old new old-rules new-rules may F L T loss safe holds fits (Err (fault.Full range)) a =
    let same : T ≡ a.survives.table = a.survives.only.1 T holds in
    let table : a.table ≡ map (by_name old new) T = a.survives.is ∙ ap (map (by_name old new)) (sym same) in
    let is_table : IsTable new (map (by_name old new) T) = by_name-table old new (alike old new old-rules new-rules may.same) T holds.table in
    absurd (has_room new (map (by_name old new) T) is_table fits range.p range.s (subst (λ (U : List Row). build_fault new U ≡ Some (Fault.Full range.p range.s)) table a.is.refused))
