-- The table to which survivors lead is the only one that they may hold.
use Rattle.std.proofs.Common.{◌≡◌, List, inl, inr, refl, sym, Option, Some, None, Result, Ok, Err}
use Rattle.cs_schema.specs.CatalogData.{CatalogData}
use Rattle.cs_schema.specs.CatalogRules.{IsCatalog}
use Rattle.cs_schema.specs.FileNames.{FileContents}
use Rattle.cs_schema.specs.Losses.{Sites}
use Rattle.cs_schema.specs.Rows.{Row, IsTable}
use Rattle.cs_store.specs.Fault.{MemoryOr}
use Rattle.cs_store.specs.declared.fault.Fault.{Fault}
use Rattle.cs_order.specs.Tables.{table_of}
use Rattle.cs_rows.specs.Survivors.{SurvivorsData, contents_of}
use Rattle.cs_recovery.specs.Holding.{HoldsSurvivors}
use Rattle.cs_recovery.specs.Verdicts.{IsVerdict, IsWalkedBy, judged, unless_refused}
use Rattle.cs_recovery.proofs.Accepted.{verdict_is}
use Rattle.cs_recovery.proofs.Read.{layers}
use Rattle.cs_rebuild.specs.Steps.{AreRead, IsUnordered}
use Rattle.cs_rebuild.proofs.SoundFacts.{walked_table}
use Rattle.cs_rebuild.proofs.Verdicts.{unordered_rows}
use Rattle.cs_diagnosis.specs.Candidates.{AreWalkedAlike, IsWalkedLike, HasNoTable}
use Rattle.cs_diagnosis.proofs.Passes.{read_beside}

not_ok : {X E : Type 0} (e : E) (x : X) → Err e ≡ Ok x → ⊥
not_ok e x k = cc k

same_ok : {X E : Type 0} (x y : X) → ◌≡◌ {A = Result X E} (Ok x) (Ok y) → x ≡ y
same_ok x y e = cc e

unrefused : {X : Type 0} (o : Option Fault) (x y : X) → unless_refused o x ≡ Ok y → x ≡ y
unrefused None x y e = same_ok x y e
unrefused (Some f) x y e = absurd (not_ok f y e)

module _ (C : CatalogData) (cat : IsCatalog C) (F : FileContents) (first L : Sites) (v : SurvivorsData) (read : AreRead C F first v) where
  -- what has no order under a loss has none under each loss with the same walk
  unordered_too : (M : Sites) (f : Fault) → AreWalkedAlike C L M → IsUnordered C L (contents_of v) f → IsUnordered C M (contents_of v) f
  unordered_too M f alike (IsUnordered.astray h) = IsUnordered.astray (h.0, alike (contents_of v) (Err h.0) h.1, h.2)
  unordered_too M f alike (IsUnordered.refused rows walk h) = IsUnordered.refused rows (alike (contents_of v) (Ok rows) walk) h

  pub no_table : (f : Fault) → IsUnordered C L (contents_of v) f → (M : Sites) (U : List Row) → IsWalkedLike C first L M → HoldsSurvivors C F M U → ⊥
  no_table f h M U like held =
      let verdict = unordered_rows C F M (contents_of v) (read_beside C F first M v like.around read).reads f (unordered_too M f like.alike h) in
      not_ok f U (verdict_is C cat (layers C cat) F M like.safe U held (Err f) verdict)

  -- a fault other than out of memory leaves no table
  pub no_table_beside : (f : Fault) → MemoryOr f (IsUnordered C L (contents_of v) f) → (f ≡ Fault.Memory → ⊥) → HasNoTable C F first L
  no_table_beside f (inl memory) other M U like held = other memory
  no_table_beside f (inr unordered) other M U like held = no_table f unordered M U like held

  module _ (rows : List Row) (walk : IsWalkedBy C.safety C L (contents_of v) (Ok rows)) where
    pub only_table : (M : Sites) (U : List Row) → IsWalkedLike C first L M → HoldsSurvivors C F M U → U ≡ table_of C rows
    only_table M U like held =
        let S = contents_of v in
        let verdict : IsVerdict C F M (judged C M S (Ok rows)) = IsVerdict.contents S (Ok rows) (read_beside C F first M v like.around read).reads (like.alike S (Ok rows) walk) refl in
        sym (unrefused _ (table_of C rows) U (verdict_is C cat (layers C cat) F M like.safe U held (judged C M S (Ok rows)) verdict))

    pub is_table : Rattle.cs_safety.specs.Within.IsWithin first L → IsTable C (table_of C rows)
    is_table around = walked_table C cat F L v (read_beside C F first L v around read).reads rows walk
