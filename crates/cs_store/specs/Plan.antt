-- Planned failures of test helpers.
use Rattle.std.specs.Prelude.{◌≡◌, ◌==◌, ◌-◌, ◌⊎◌, List, Option, Some, None, if◌then◌else◌, slice_get}
use Rattle.std.specs.Option.{option_map}
use Rattle.cs_store.specs.declared.fault.StoreFault.{StoreFault}
use Rattle.cs_store.specs.declared.fault.StoreFault.TheVariants.{Memory}
use Rattle.cs_store.specs.declared.memory.failure.Failure.{Failure}

-- the fault with which the next call is to fail
abbrev pub due : Option Failure → Option StoreFault
due None = None
due (Some failure) = if failure.after == 0 then Some failure.fault else None

-- what is planned after that call
abbrev pub later : Option Failure → Option Failure
later None = None
later (Some failure) = if failure.after == 0 then None else Some (record failure { after = failure.after - 1 })

-- a call that was not to fail
pub record GoesOn (plan next : Option Failure) : Type 0 where
  pub not_due : due plan ≡ None
  pub later : next ≡ later plan

-- a call that failed as planned, or for want of memory
pub record Fails (plan : Option Failure) (fault : StoreFault) (next : Option Failure) : Type 0 where
  pub cause : (due plan ≡ Some fault) ⊎ (fault ≡ Memory)
  pub later : next ≡ later plan

-- of these calls to come, the one that is to fail, and its fault
abbrev pub planned : {A : Type 0} → List A → Option Failure → Option (A × StoreFault)
planned calls None = None
planned calls (Some failure) = option_map (λ call. (call, failure.fault)) (slice_get calls failure.after)
