-- A value that exists under a condition.
use Rattle.std.specs.Prelude.{Bool, if◌then◌else◌, Option, Some, None}

abbrev pub when : {X : Type 0} → Bool → X → Option X
when b x = if b then Some x else None
