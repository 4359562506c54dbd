-- Which of several calls is planned to fail.
use Rattle.std.proofs.Common.{◌≡◌, ◌==◌, ◌-◌, ℕ, zero, suc, false, List, ◌∷◌, Option, Some, None, sym, ap, ◌∙◌, rules, arith}
use Rattle.std.specs.Option.{option_map}
use Rattle.cs_store.specs.Plan.{due, later, GoesOn, planned}
use Rattle.cs_store.specs.declared.fault.StoreFault.{StoreFault}
use Rattle.cs_store.specs.declared.memory.failure.Failure.{Failure}

above_zero : (n : ℕ) → (suc n == 0) ≡ false
above_zero n = search rules

one_less : (n : ℕ) → suc n - 1 ≡ n
one_less n = omega arith

planned-later : {A : Type 0} (call : A) (calls : List A) (after : ℕ) (fault : StoreFault) → due (Some (record { after = after; fault = fault })) ≡ None → planned (call ∷ calls) (Some (record { after = after; fault = fault })) ≡ planned calls (later (Some (record { after = after; fault = fault })))
planned-later call calls zero fault e = cc
planned-later call calls (suc n) fault e = rw (above_zero n, one_less n)

-- where the next call goes well, what is planned of it and those after it is what is planned of these
pub planned-GoesOn : {A : Type 0} (call : A) (calls : List A) (plan next : Option Failure) → GoesOn plan next → planned (call ∷ calls) plan ≡ planned calls next
planned-GoesOn call calls None next on = ap (planned calls) (sym on.later)
planned-GoesOn call calls (Some failure) next on = planned-later call calls failure.after failure.fault on.not_due ∙ ap (planned calls) (sym on.later)

planned-due-after : {A : Type 0} (call : A) (calls : List A) (after : ℕ) (planned_fault fault : StoreFault) → due (Some (record { after = after; fault = planned_fault })) ≡ Some fault → planned (call ∷ calls) (Some (record { after = after; fault = planned_fault })) ≡ Some (call, fault)
planned-due-after call calls zero planned_fault fault e = ap (option_map (λ f. (call, f))) e
planned-due-after call calls (suc n) planned_fault fault e = let none = rw (above_zero n) at e in cc

-- where the next call is to fail, it is the one
pub planned-due : {A : Type 0} (call : A) (calls : List A) (plan : Option Failure) (fault : StoreFault) → due plan ≡ Some fault → planned (call ∷ calls) plan ≡ Some (call, fault)
planned-due call calls None fault e = cc
planned-due call calls (Some failure) fault e = planned-due-after call calls failure.after failure.fault fault e
