-- How a read that failed is named.
use Rattle.std.proofs.Common.{◌≡◌, inl, inr, ⊎_elim, ap, ℕ}
use Rattle.std.specs.Prelude.{Result, Ok, Err, IfErr, IsErrOf}
use Rattle.cs_schema.specs.declared.file_name.FileName.{FileName}
use Rattle.cs_store.specs.Fault.{CountsFault, MemoryOr}
use Rattle.cs_store.specs.declared.fault.Fault.{Fault}
use Rattle.cs_store.specs.declared.fault.Fault.TheVariants.{Read}
use Rattle.cs_shelf.specs.Faults.{FailsToRead}

-- a fault for which a load stops is a read's that failed
pub read_failed : {X : Type 0} (old new : ℕ) (Stops : Fault → Type 0) → ((f : Fault) → Stops f → (n : FileName) × (f ≡ Read n)) → (r : Result X Fault) → IfErr r (λ f. MemoryOr f (Stops f))
    → ((n : FileName) → IsErrOf r (Read n) → CountsFault old new) → IfErr r (λ f. MemoryOr f (FailsToRead old new f))
read_failed old new Stops name (Ok x) err device = tt
read_failed old new Stops name (Err f) err device =
    ⊎_elim (λ memory. inl memory) (λ stops. inr (let n = name f stops in (n.0, n.1, device n.0 (ap Err n.1)))) err
