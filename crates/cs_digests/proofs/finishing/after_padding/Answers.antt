use Rattle.std.proofs.Common.{◌≡◌, ◌*◌, ◌+◌, ◌/◌, length, length-append, length-drop, drop, sym, ap, ◌∙◌, arith}
use Rattle.std.proofs.lemmas.List.{drop-append-le}
use Rattle.sha2.specs.Sha256.{hash_after, initial_hash_256, padded_message, padding}
use Rattle.sha2.proofs.Absorbing256.{hash_after-append}
use Rattle.cs_digests.proofs.HashLemmas.{hash_after_more}
use Rattle.cs_digests.proofs.finishing.after_padding.Goals as goal

pub returns : goal.returns
returns c =
    let text = c.args.text.now in
    let q = length text / 64 in
    let p = padded_message text in
    let rest : c.rest_of-rest.result.items ≡ drop (q * 64) p = c.rest_of-rest.ensures ∙ sym (drop-append-le (q * 64) text (padding (length text)) (omega arith)) in
    let before = c.requires ∙ sym (hash_after-append initial_hash_256 text (padding (length text)) q (omega arith)) in
    let bytes = c.deref.ensures.0 ∙ rest in
    let long = length-drop (q * 64) p in
    let whole = length-append text (padding (length text)) in
    let done : q + length (drop (q * 64) p) / 64 ≡ length p / 64 = omega (arith, long, whole) in
    c.absorb.ensures
    ∙ (λ i. hash_after (before i) (bytes i) (length (bytes i) / 64))
    ∙ hash_after_more initial_hash_256 p q (length (drop (q * 64) p) / 64)
    ∙ ap (hash_after initial_hash_256 p) done
