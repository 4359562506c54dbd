-- The calls of the system, and what it tells.
use Rattle.std.specs.Prelude.{ℕ, List, ⊤, refl}
use Rattle.cs_file_system.specs.Calls.{Calls}
use Rattle.cs_file_system.specs.declared.identity.Identity.{Identity}

-- These were called. No contract is told what the system was called for, so that there are no such calls; but only this module
-- opens the definition. To everyone else they are unknown, who calls the system has to show what each call asks.
pub system_calls : {S : Type 0} → S → Calls → Type 0
system_calls files calls = ⊥

-- For the calls of the system itself alone: it is trusted that they do what `FileSystem` says.
pub trusted : {S : Type 0} (files : S) (calls : Calls) → system_calls files calls → ⊥
unfolding system_calls
trusted files calls called = called

-- The system told that the folder at this path has this identity, and that no link is at this path. To everyone but this module
-- that is unknown too, so who says it has asked the system.
pub system_identity : List ℕ → Identity → Type 0
system_identity path identity = ⊤

pub system_no_link : List ℕ → Type 0
system_no_link path = ⊤

-- the system gave this program the lock of an open file
pub system_locked : {S : Type 0} → S → Type 0
system_locked file = ⊤

pub system_locked-prop : {S : Type 0} (file : S) → IsProp (system_locked file)
unfolding system_locked
system_locked-prop file a b = refl

-- for the calls that ask alone
pub trusted_identity : (path : List ℕ) (identity : Identity) → system_identity path identity
unfolding system_identity
trusted_identity path identity = tt

pub trusted_no_link : (path : List ℕ) → system_no_link path
unfolding system_no_link
trusted_no_link path = tt

pub trusted_locked : {S : Type 0} (file : S) → system_locked file
unfolding system_locked
trusted_locked file = tt
