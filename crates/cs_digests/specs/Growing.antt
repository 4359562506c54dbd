-- The digest of a message that grows.
use Rattle.std.specs.Prelude.{◌≡◌, ◌<◌, ◌≤◌, ◌*◌, ◌^◌, ℕ, List, length, drop}
use Rattle.sha2.specs.Sha256.{hash_after, initial_hash_256}
use Rattle.cs_digests.specs.declared.taking.GrowingDigest.{GrowingDigest}

-- it is the hash value after some whole blocks at the front of the message
pub record HasTaken (digest : GrowingDigest) (m : List ℕ) : Type 0 where
  pub within : digest.done * 64 ≤ length m
  pub is : digest.words ≡ hash_after initial_hash_256 m digest.done

-- it is the hash value after all whole blocks of the message, with what follows them
pub record HasTakenAll (digest : GrowingDigest) (m : List ℕ) : Type 0 where
  pub taken : HasTaken digest m
  pub rest_is : digest.rest.items ≡ drop (digest.done * 64) m
  pub short : length digest.rest.items < 64
  pub fits : digest.done * 64 < 2 ^ 64
