use Rattle.cs_rebuild.proofs.SegmentFiles.{on_then, fits_column, appends}
use Rattle.cs_rebuild.proofs.segment_encoder.SegmentEncoder.queue.Goals as goal

pub put_pieces-requires : goal.put_pieces-requires
put_pieces-requires c = c.requires.body.short (fits_column c.args.self.now c.args.j c.requires.column)

pub returns : goal.returns
returns c =
    let put = rw (c.code-code.ensures, c.column_kind-kind.ensures) at c.put_pieces.ensures in
    on_then c.put_pieces.result put (appends c.args.self.now c.args.j c.requires.column c.args.body c.args.file.now c.put_pieces.new.self c.requires.body)
