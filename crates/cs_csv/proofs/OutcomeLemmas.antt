-- Facts of an outcome.
use Rattle.std.specs.Prelude.{Result, Ok, Err, IfOk, IfErr}

pub if-ok-then : {T E : Type 0} (r : Result T E) (P Q : T → Type 0) → ((x : T) → P x → Q x) → IfOk r P → IfOk r Q
if-ok-then (Ok x) P Q f p = f x p
if-ok-then (Err e) P Q f p = tt

pub if-err-then : {T E : Type 0} (r : Result T E) (P Q : E → Type 0) → ((x : E) → P x → Q x) → IfErr r P → IfErr r Q
if-err-then (Ok x) P Q f p = tt
if-err-then (Err e) P Q f p = f e p
