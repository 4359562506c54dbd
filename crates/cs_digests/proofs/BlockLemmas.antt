-- A block more of a message that goes beside others.
use Rattle.std.proofs.Common.{◌≡◌, ℕ, List, ◌*◌, ◌+◌, ◌-◌, take, drop, sym, ap, ◌∙◌, arith}
use Rattle.sha2.specs.Sha256.{compress, hash_after, initial_hash_256}
use Rattle.sha2.proofs.Absorbing256.{hash_after_next}

-- the hash value after the block that follows so many, `i` of them taken in beside the others
pub block_more : (text now next : List ℕ) (done i : ℕ) → now ≡ hash_after initial_hash_256 text (done + i)
    → next ≡ compress now (take (64 * (done + i) + 64 - 64 * (done + i)) (drop (64 * (done + i)) text)) → next ≡ hash_after initial_hash_256 text (done + (i + 1))
block_more text now next done i so e =
    let at : 64 * (done + i) ≡ (done + i) * 64 = omega arith in
    let width : 64 * (done + i) + 64 - 64 * (done + i) ≡ 64 = omega arith in
    let one : done + i + 1 ≡ done + (i + 1) = omega arith in
    e
    ∙ (λ k. compress (so k) (take (width k) (drop (at k) text)))
    ∙ sym (hash_after_next initial_hash_256 text (done + i))
    ∙ ap (hash_after initial_hash_256 text) one
