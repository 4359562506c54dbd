use Rattle.std.proofs.Common.{◌≡◌, ℕ, ◌*◌, ◌+◌, ◌-◌, ◌/◌, length, length-drop, take, drop, ap, ◌∙◌, arith}
use Rattle.std.proofs.lemmas.List.{take_all}
use Rattle.sha2.specs.Sha256.{hash_after, initial_hash_256}
use Rattle.cs_digests.proofs.HashLemmas.{hash_after_more}
use Rattle.cs_digests.proofs.finishing.after_blocks.Goals as goal

pub returns : goal.returns
returns c =
    let text = c.args.text.now in
    let done = c.args.done in
    let at : 64 * done ≡ done * 64 = omega arith in
    let long = length-drop (done * 64) text in
    let left : length (drop (done * 64) text) / 64 ≡ length text / 64 - done = omega arith in
    let all : done + (length text / 64 - done) ≡ length text / 64 = omega arith in
    let rest : take (length text - 64 * done) (drop (64 * done) text) ≡ drop (done * 64) text = ap (λ (n : ℕ). take (length text - n) (drop n text)) at ∙ take_all (length text - done * 64) (drop (done * 64) text) (omega arith) in
    c.absorb.ensures
    ∙ (λ i. hash_after (c.requires.before i) (rest i) (length (rest i) / 64))
    ∙ ap (hash_after (hash_after initial_hash_256 text done) (drop (done * 64) text)) left
    ∙ hash_after_more initial_hash_256 text done (length text / 64 - done)
    ∙ ap (hash_after initial_hash_256 text) all
