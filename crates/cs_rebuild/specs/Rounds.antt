-- Rounds of tasks, each of which is sound or has one fault.
use Rattle.std.specs.Prelude.{◌≡◌, ℕ, ◌<◌, Bool, true, false, Option, Some, None}
use Rattle.cs_store.specs.declared.fault.Fault.{Fault}

-- the fault is out of memory
abbrev pub is_memory : Fault → Bool
is_memory Fault.Memory = true
is_memory Fault.Site = false
is_memory Fault.BadK = false
is_memory (Fault.Unsafe L) = false
is_memory (Fault.Missing n) = false
is_memory (Fault.Damaged n) = false
is_memory (Fault.Astray p s row) = false
is_memory Fault.Twice = false
is_memory (Fault.Full p s) = false
is_memory (Fault.Misplaced p s) = false
is_memory (Fault.Misled p s q) = false
is_memory (Fault.Read n) = false
is_memory (Fault.Write n) = false

-- no fault, or a fault other than out of memory
abbrev pub IsNoMemory : Option Fault → Type 0
IsNoMemory None = Unit {0}
IsNoMemory (Some f) = is_memory f ≡ false

-- the fault of the first task that has one
pub record IsFirstFault (fault_at : ℕ → Option Fault → Type 0) (count : ℕ) (fault : Fault) : Type 0 where
  pub at : ℕ
  pub is_task : at < count
  pub here : fault_at at (Some fault)
  pub before : (i : ℕ) → i < at → fault_at i None
