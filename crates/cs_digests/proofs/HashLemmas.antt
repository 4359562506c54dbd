-- How the hash value follows a message that is taken in part by part.
use Rattle.std.proofs.Common.{◌≡◌, ℕ, zero, suc, ◌+◌, ◌*◌, ◌/◌, ◌≤◌, List, ◌++◌, length, take, drop, sym, ap, ◌∙◌, arith, add-zero, length-append}
use Rattle.std.proofs.lemmas.List.{take-append-le, drop-append-le, take_all, drop_all, append_assoc, drop-drop, take-append-drop, length-take-le}
use Rattle.sha2.specs.Sha256.{add32, compress, hash_after}
use Rattle.sha2.proofs.Absorbing256.{hash_after-append, hash_after_next}

-- the sum of three words in another order
pub sum_later : (x k w : ℕ) → add32 (add32 x k) w ≡ add32 x (add32 k w)
sum_later x k w = omega arith

-- some blocks, and then those behind them
pub hash_after_more : (h p : List ℕ) (k n : ℕ) → hash_after (hash_after h p k) (drop (k * 64) p) n ≡ hash_after h p (k + n)
unfolding hash_after
hash_after_more h p k zero = ap (hash_after h p) (sym (add-zero k))
hash_after_more h p k (suc n) =
    let at : k * 64 + n * 64 ≡ (k + n) * 64 = omega arith in
    let one : k + n + 1 ≡ k + suc n = omega arith in
    (λ i. compress (hash_after_more h p k n i) (take 64 ((drop-drop (n * 64) (k * 64) p ∙ ap (λ (m : ℕ). drop m p) at) i)))
    ∙ sym (hash_after_next h p (k + n))
    ∙ ap (hash_after h p) one

-- only the blocks that are counted are read
pub hash_after_front : (h p : List ℕ) (size n : ℕ) → n * 64 ≤ size → size ≤ length p → hash_after h (take size p) n ≡ hash_after h p n
hash_after_front h p size n fits within =
    sym (hash_after-append h (take size p) (drop size p) n (omega (arith, length-take-le size p within))) ∙ ap (λ (q : List ℕ). hash_after h q n) (take-append-drop size p)

-- a block alone
pub one_block : (h b : List ℕ) → length b ≡ 64 → hash_after h b (length b / 64) ≡ compress h b
unfolding hash_after
one_block h b size =
    let one : length b / 64 ≡ 1 = omega (arith, size) in
    ap (hash_after h b) one ∙ ap (compress h) (take_all 64 b (omega (arith, size)))

-- bytes behind a message of which less than a block is left: the block that they fill, and those that follow it
module _ (ini m bytes rest end others words now next : List ℕ) (k : ℕ) (within : k * 64 ≤ length m) (taken : words ≡ hash_after ini m k) (left : rest ≡ drop (k * 64) m) (split : bytes ≡ end ++ others) (full : length rest + length end ≡ 64)
  where
    behind : drop (k * 64) (m ++ bytes) ≡ (rest ++ end) ++ others
    behind = drop-append-le (k * 64) m bytes within ∙ (λ i. sym left i ++ split i) ∙ sym (append_assoc rest end others)

    long : length (rest ++ end) ≡ 64
    long = length-append rest end ∙ full

    pub filled : now ≡ compress words (rest ++ end) → now ≡ hash_after ini (m ++ bytes) (k + 1)
    filled e =
        let before = taken ∙ sym (hash_after-append ini m bytes k within) in
        let block : take 64 (drop (k * 64) (m ++ bytes)) ≡ rest ++ end = ap (take 64) behind ∙ take-append-le 64 (rest ++ end) others (omega (arith, long)) ∙ take_all 64 (rest ++ end) (omega (arith, long)) in
        e ∙ (λ i. compress (before i) (sym block i)) ∙ sym (hash_after_next ini (m ++ bytes) k)

    pub followed : now ≡ compress words (rest ++ end) → next ≡ hash_after now others (length others / 64) → next ≡ hash_after ini (m ++ bytes) (k + (1 + length others / 64))
    followed e f =
        let at : k * 64 + 64 ≡ (k + 1) * 64 = omega arith in
        let one : k + 1 + length others / 64 ≡ k + (1 + length others / 64) = omega arith in
        let after : others ≡ drop ((k + 1) * 64) (m ++ bytes) =
        sym (ap (λ l. l ++ others) (drop_all 64 (rest ++ end) (omega (arith, long)))) ∙ sym (drop-append-le 64 (rest ++ end) others (omega (arith, long))) ∙ ap (drop 64) (sym behind) ∙ drop-drop 64 (k * 64) (m ++ bytes) ∙ ap (λ (n : ℕ). drop n (m ++ bytes)) at
        in
        f ∙ (λ i. hash_after (filled e i) (after i) (length others / 64)) ∙ hash_after_more ini (m ++ bytes) (k + 1) (length others / 64) ∙ ap (hash_after ini (m ++ bytes)) one
