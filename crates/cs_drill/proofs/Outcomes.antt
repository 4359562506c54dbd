-- What an answer of a recovery says of its loss.
use Rattle.std.proofs.Common.{◌≡◌, inl, inr}
use Rattle.std.specs.Prelude.{Ok}
use Rattle.cs_schema.specs.CatalogData.{CatalogData}
use Rattle.cs_schema.specs.FileNames.{FileContents}
use Rattle.cs_schema.specs.Losses.{Sites}
use Rattle.cs_store.specs.FileSet.{Files}
use Rattle.cs_store.specs.Fault.{MemoryOr}
use Rattle.cs_store.specs.declared.fault.Fault.{Fault}
use Rattle.cs_recovery.specs.Laws.{RebuildClauses}
use Rattle.cs_drill.specs.Drills.{Recovers}

-- files that are answered recover a table
pub recovers : (C : CatalogData) (F : FileContents) (L : Sites) (out : Files) → RebuildClauses C F L (Ok out) → Recovers C F L out
recovers C F L out clauses =
    let e = clauses.exact in
    (e.2.0, record { safe = e.1; only = e.2.1; expected = e.2.2 })

-- a fault that is not out of memory is the other
pub other_fault : (f : Fault) {P : Type 0} → MemoryOr f P → (f ≡ Fault.Memory → ⊥) → P
other_fault f (inl m) other = absurd (other m)
other_fault f (inr p) other = p
