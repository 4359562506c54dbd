-- Faults of devices, and want of memory set aside.
use Rattle.std.specs.Prelude.{◌≡◌, ◌<◌, ℕ, ◌⊎◌}
use Rattle.cs_store.specs.declared.fault.Fault.{Fault}
use Rattle.cs_store.specs.declared.fault.Fault.TheVariants.{Memory}

-- over a call the count of a device's faults grew, or it stood at the last number of a `u64`
abbrev pub CountsFault : ℕ → ℕ → Type 0
CountsFault old new = (old < new) ⊎ (old ≡ 18446744073709551615)

-- want of memory, or a fault of which P holds
abbrev pub MemoryOr : Fault → Type 0 → Type 0
MemoryOr fault P = (fault ≡ Memory) ⊎ P
