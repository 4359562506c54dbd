use Rattle.std.proofs.Common.{◌≡◌, ◌*◌, ◌+◌, ◌-◌, ◌/◌, length, length-drop, take, drop, sym, ap, ◌∙◌, arith, refl}
use Rattle.sha2.specs.Sha256.{compress, hash_after}
use Rattle.sha2.proofs.Absorbing256.{hash_after_next}
use Rattle.cs_digests.proofs.HashLemmas.{hash_after_front, hash_after_more}
use Rattle.cs_digests.proofs.single.absorb.Goals as goal

pub fours-init : goal.fours-init
unfolding hash_after
fours-init c = refl

pub fours-preserved : goal.fours-preserved
fours-preserved c =
    let h = c.args.hash.now in
    let bytes = c.args.bytes.now in
    let i = c.fours.i in
    let at : 256 * i ≡ 4 * i * 64 = omega arith in
    let width : 256 * i + 256 - 256 * i ≡ 256 = omega arith in
    let next : 4 * i + 4 ≡ 4 * (i + 1) = omega arith in
    c.compress_four.ensures
    ∙ (λ k. hash_after (c.fours.invariant k) (take (width k) (drop (at k) bytes)) 4)
    ∙ hash_after_front (hash_after h bytes (4 * i)) (drop (4 * i * 64) bytes) 256 4 (omega arith) (omega (arith, length-drop (4 * i * 64) bytes))
    ∙ hash_after_more h bytes (4 * i) 4
    ∙ ap (hash_after h bytes) next

pub ones-init : goal.ones-init
ones-init c =
    let done : 4 * c.fours.i ≡ 4 * (length c.args.bytes.now / 64 / 4) = omega arith in
    c.fours.invariant ∙ ap (hash_after c.args.hash.now c.args.bytes.now) done

pub ones-preserved : goal.ones-preserved
ones-preserved c =
    let bytes = c.args.bytes.now in
    let i = c.ones.i in
    let at : 64 * i ≡ i * 64 = omega arith in
    let width : 64 * i + 64 - 64 * i ≡ 64 = omega arith in
    c.compress_one.ensures
    ∙ (λ k. compress (c.ones.invariant k) (take (width k) (drop (at k) bytes)))
    ∙ sym (hash_after_next c.args.hash.now bytes i)

pub returns : goal.returns
returns c =
    let done : c.ones.i ≡ length c.args.bytes.now / 64 = omega arith in
    c.ones.invariant ∙ ap (hash_after c.args.hash.now c.args.bytes.now) done
