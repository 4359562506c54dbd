use Rattle.std.proofs.Common.{◌≡◌, ◌+◌, ◌*◌, length, take}
use Rattle.std.specs.Vec.Iter.{into_iter_items, into_iter_len}
use Rattle.cs_rebuild.specs.SegmentEncoder.{IsChunk, IsPieceAt}
use Rattle.cs_rebuild.proofs.Rests.{AnswersFrom}
use Rattle.cs_rebuild.proofs.segment_encoder.SegmentEncoder.concat.Given as goal

-- the first chunk was taken before the loop
abbrev pub invariant-loop-chunk : goal.invariant-loop-chunk
invariant-loop-chunk l = record {
  left : length l.yielded + 1 + into_iter_len l.chunk-iterator ≡ l.self.chunks;
  rest : AnswersFrom (IsChunk l.self l.j) (length l.yielded + 1) (into_iter_items l.chunk-iterator);
  column : IsPieceAt l.self l.j (take ((length l.yielded + 1) * l.self.cut) l.self.numbers.now) l.column;
}
