use Rattle.std.proofs.Common.{take, drop, ap, ◌∙◌, arith}
use Rattle.sha2.specs.Sha256.{compress, hash_after}
use Rattle.cs_digests.proofs.single.compress_four.Goals as goal

pub returns : goal.returns
unfolding hash_after
returns c =
    let blocks = c.args.blocks.now in
    let keyed = c.make_keyed.ensures in
    let s0 = c.compress_keyed-after.ensures _ (keyed 0 (omega arith)) in
    let s1 = c.compress_keyed-after-2.ensures _ (keyed 1 (omega arith)) in
    let s2 = c.compress_keyed-after-3.ensures _ (keyed 2 (omega arith)) in
    c.compress_keyed.ensures _ (keyed 3 (omega arith))
    ∙ ap (λ h. compress h (take 64 (drop 192 blocks))) (s2 ∙ ap (λ h. compress h (take 64 (drop 128 blocks))) (s1 ∙ ap (λ h. compress h (take 64 (drop 64 blocks))) s0))
