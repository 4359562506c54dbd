use Rattle.std.proofs.Common.{length, ◌∙◌}
use Rattle.std.proofs.Crossing.{crosses}
use denote.Param.Send.{sendable}
use Rattle.cs_segment.proofs.PieceColumns.{text_begun}
use Rattle.cs_rebuild.specs.SegmentEncoder.{base_in}
use Rattle.cs_rebuild.proofs.SegmentFiles.{file_is, rows_are}
use Rattle.cs_rebuild.proofs.segment_encoder.SegmentEncoder.encode.Goals as goal

pub append_columns-requires : goal.append_columns-requires
append_columns-requires g c =
    let e = c.args.self.now in (
      search (sendable, crosses) depth 40,
      (
        search (sendable, crosses) depth 40,
        c.reserve.ensures ∙ text_begun e.store.now.catalog.now e.p e.s (length e.numbers.now) (base_in e) c.in_ok-file.file (rows_are e) c.in_ok-file.ensures,
      ),
    )

pub returns : goal.returns
returns g c = file_is c.args.self.now c.finish.result c.append_columns.new.file c.in_ok-append_columns.ensures c.finish.ensures
