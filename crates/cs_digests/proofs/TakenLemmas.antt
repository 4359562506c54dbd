-- What a growing digest has taken of a message that has grown.
use Rattle.std.proofs.Common.{◌≡◌, List, ℕ, ◌++◌, Bool, true, false, if◌then◌else◌, length-append, sym, subst, ◌∙◌, arith}
use Rattle.sha2.specs.Sha256.{initial_hash_256}
use Rattle.sha2.proofs.Absorbing256.{hash_after-append}
use Rattle.cs_digests.specs.declared.taking.GrowingDigest.{GrowingDigest}
use Rattle.cs_digests.specs.Growing.{HasTaken}

-- it stays the hash value where bytes follow
pub taken_longer : (digest : GrowingDigest) (m x : List ℕ) → HasTaken digest m → HasTaken digest (m ++ x)
taken_longer digest m x held =
    let within = held.within in
    let long = length-append m x in
    record { within = omega (arith, within, long); is = held.is ∙ sym (hash_after-append initial_hash_256 m x digest.done within) }

-- or where they may follow
pub taken_if : (digest : GrowingDigest) (m x now : List ℕ) (b : Bool) → now ≡ (if b then m ++ x else m) → HasTaken digest m → HasTaken digest now
taken_if digest m x now true e held = subst (HasTaken digest) (sym e) (taken_longer digest m x held)
taken_if digest m x now false e held = subst (HasTaken digest) (sym e) held
