-- Faults of the device of a store, as what reads or writes files names them.
use Rattle.std.specs.Prelude.{◌≡◌, ℕ, Option}
use Rattle.cs_schema.specs.declared.file_name.FileName.{FileName}
use Rattle.cs_store.specs.Fault.{CountsFault}
use Rattle.cs_store.specs.declared.fault.Fault.{Fault}
use Rattle.cs_store.specs.declared.fault.Fault.TheVariants.{Read, Write}

-- a read failed: the fault names its file, and the device's faults were counted
abbrev pub FailsToRead : ℕ → ℕ → Fault → Type 0
FailsToRead old new fault = (name : FileName) × (fault ≡ Read name) × CountsFault old new

-- a write or a sync failed: the fault names the file, if there is one, and the device's faults were counted
abbrev pub FailsToWrite : ℕ → ℕ → Fault → Type 0
FailsToWrite old new fault = (at : Option FileName) × (fault ≡ Write at) × CountsFault old new
