-- What a refused reading of a catalog says.
use Rattle.std.specs.Prelude.{◌≡◌, ◌≢◌, ℕ, Option, None, Some}
use Rattle.cs_catalog.specs.declared.fault.Refusal.{Refusal}
use Rattle.cs_catalog.specs.declared.fault.Refusal.TheVariants.{Memory, Rule}

-- the number of the rule that a refusal names
abbrev pub rule_of : Refusal → Option ℕ
rule_of Memory = None
rule_of (Rule n problem) = Some n

-- rule n is broken, as nothing is read
abbrev pub IsRefused : {A : Type 0} → ℕ → Option A → Refusal → Type 0
IsRefused n read refusal = (rule_of refusal ≡ Some n) × (read ≡ None)

-- the same, or memory is wanted
abbrev pub IsRefusedUnlessMemory : {A : Type 0} → ℕ → Option A → Refusal → Type 0
IsRefusedUnlessMemory n read refusal = refusal ≢ Memory → IsRefused n read refusal
