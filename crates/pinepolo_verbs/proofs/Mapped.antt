-- What holds of a result holds of what a call made of it.
use Rattle.std.proofs.Common.{◌≡◌, Ok, Err}
use Rattle.std.specs.Prelude.{Result, IfOk, IsOkAnd, MatchResult}

pub mapped : {T U E : Type 0} (post : T → U → Type 0) (P : T → Type 0) (Q : U → Type 0) → ((x : T) (y : U) → post x y → P x → Q y)
    → (self : Result T E) (result : Result U E) → MatchResult self (λ x. IsOkAnd result (post x)) (λ e. result ≡ Err e) → IfOk self P → IfOk result Q
mapped post P Q gives (Ok x) (Ok y) made holds = gives x y made holds
mapped post P Q gives (Ok x) (Err e) made holds = tt
mapped post P Q gives (Err e) (Ok y) made holds = absurd (let same = made in cc)
mapped post P Q gives (Err e) (Err f) made holds = tt
