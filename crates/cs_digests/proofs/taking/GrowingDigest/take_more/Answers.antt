use Rattle.std.proofs.Common.{◌≡◌, ◌*◌, ◌+◌, ◌-◌, ◌++◌, length, length-append, length-drop, sym, ap, ◌∙◌, arith}
use Rattle.std.proofs.lemmas.List.{take-append-drop}
use Rattle.sha2.specs.Sha256.{compress, initial_hash_256}
use Rattle.cs_digests.proofs.HashLemmas.{followed, one_block}
use Rattle.cs_digests.proofs.TakenLemmas.{taken_longer}
use Rattle.cs_digests.proofs.taking.GrowingDigest.take_more.Goals as goal

pub returns-then-bytes-missing : goal.returns-then-bytes-missing
returns-then-bytes-missing c = λ m held. taken_longer c.args.self.now m c.args.bytes.now held.taken

pub returns : goal.returns
returns c = λ m held.
    let bytes = c.args.bytes.now in
    let rest = c.args.self.now.rest.items in
    let k = c.args.self.now.done in
    let end = c.split_at.result.0.now in
    let others = c.split_at.result.1.now in
    let within = held.taken.within in
    let short = held.short in
    let missing = 64 - c.len-missing.result in
    let split : bytes ≡ end ++ others = sym ((λ i. c.split_at.ensures.front i ++ c.split_at.ensures.back i) ∙ take-append-drop missing bytes) in
    let front = c.split_at.ensures.front_len in
    let count = c.len-missing.ensures.value in
    let full : length rest + length end ≡ 64 = omega (arith, front, count, short) in
    let whole = length-append m bytes in
    let parts = ap length split ∙ length-append end others in
    let long = ap length held.rest_is ∙ length-drop (k * 64) m in
    let is : c.deref-2.result.now ≡ rest ++ end = c.deref-2.ensures.0 ∙ c.block_of-block.ensures ∙ ap (λ l. l ++ end) c.deref.ensures.0 in
    let size : length c.deref-2.result.now ≡ 64 = ap length is ∙ length-append rest end ∙ full in
    let block = c.absorb.ensures ∙ one_block c.args.self.now.words c.deref-2.result.now size ∙ ap (compress c.args.self.now.words) is in
    record {
      within = omega (arith, within, whole, parts, long, full);
      is = followed initial_hash_256 m bytes rest end others c.args.self.now.words c.absorb.new.hash c.absorb-2.new.hash k within held.taken.is held.rest_is split full block c.absorb-2.ensures;
    }
