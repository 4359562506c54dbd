use Rattle.cs_digests.proofs.TakenLemmas.{taken_if}
use Rattle.cs_segment.proofs.hashing_buffer.HashingBuffer.extend.Goals as goal

pub take_in-requires : goal.take_in-requires
take_in-requires c = rw c.deref.ensures.value (taken_if c.self.inside.digest c.self.inside.bytes.items c.args.bytes.now c.extend_from_slice-put.new.self.items _ c.extend_from_slice-put.ensures.items c.self.invariant)
