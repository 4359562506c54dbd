use Rattle.std.proofs.Common.{◌-◌}
use Rattle.cs_rebuild.specs.SegmentEncoder.{HoldsFirst, IsBody}
use Rattle.cs_rebuild.proofs.segment_encoder.SegmentEncoder.append_first.Given as goal

-- the file has the columns before the last encoded one, which is still to be appended
abbrev pub invariant-loop-next : goal.invariant-loop-next
invariant-loop-next g l = record {
  body : IsBody l.self (l.next - 1) l.body;
  holds : HoldsFirst l.self (l.next - 1) l.file;
}
