use Rattle.std.proofs.Common.{◌≡◌, ◌+◌, ◌*◌, length, take}
use Rattle.std.specs.Vec.Iter.{into_iter_items, into_iter_len}
use Rattle.cs_schema.specs.declared.kinds.Code.{Code}
use Rattle.cs_codec.specs.ColumnText.{column_text}
use Rattle.cs_segment.specs.SegmentWriter.{joined}
use Rattle.cs_rebuild.specs.SegmentEncoder.{IsChunk, values_in}
use Rattle.cs_rebuild.proofs.Rests.{AnswersFrom}
use Rattle.cs_rebuild.proofs.segment_encoder.SegmentEncoder.plain_body.Given as goal

abbrev pub invariant-loop-chunk : goal.invariant-loop-chunk
invariant-loop-chunk l = record {
  left : length l.yielded + into_iter_len l.chunk-iterator ≡ l.self.chunks;
  rest : AnswersFrom (IsChunk l.self l.j) (length l.yielded) (into_iter_items l.chunk-iterator);
  body : joined l.body.items ≡ column_text Code.Plain (values_in l.self l.j (take (length l.yielded * l.self.cut) l.self.numbers.now));
}
