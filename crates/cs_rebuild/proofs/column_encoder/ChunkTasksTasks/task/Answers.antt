use Rattle.std.proofs.Common.{sym, subst}
use Rattle.cs_rebuild.specs.SegmentEncoder.{CanEncodeAt}
use Rattle.cs_rebuild.proofs.Encodings.{can_encode_cut}
use Rattle.cs_rebuild.proofs.SegmentFiles.{can_encode_all}
use Rattle.cs_rebuild.proofs.column_encoder.ChunkTasksTasks.task.Goals as goal

pub encode_rows-requires-clause-rows : goal.encode_rows-requires-clause-rows
encode_rows-requires-clause-rows c =
    let e = c.args.self.now.encoder.now in
    let j = c.args.self.now.j in
    subst (CanEncodeAt e j) (sym c.cut_of-numbers.ensures) (can_encode_cut e j e.numbers.now e.cut c.args.k (can_encode_all e j c.args.self.now.column))
