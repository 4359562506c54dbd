use Rattle.cs_rebuild.proofs.SegmentFiles.{on_then, fits_column, appends}
use Rattle.cs_rebuild.proofs.segment_encoder.SegmentEncoder.append.Goals as goal

pub push_pieces-requires : goal.push_pieces-requires
push_pieces-requires g c = c.requires.body.short (fits_column c.args.self.now c.args.j c.requires.column)

pub returns : goal.returns
returns g c =
    let pushed = rw (c.code-code.ensures, c.column_kind-kind.ensures) at c.push_pieces.ensures in
    on_then c.push_pieces.result pushed (appends c.args.self.now c.args.j c.requires.column c.args.body c.args.file.now c.push_pieces.new.self c.requires.body)
