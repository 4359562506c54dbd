use Rattle.cs_store.specs.FileSet.{contents_of}
use Rattle.cs_inspection.proofs.Merges.{merge_tells}
use Rattle.cs_inspection.proofs.damage.Inspector.is_delta.Goals as goal

pub returns-in-Ok-Some-sound_segment : goal.returns-in-Ok-Some-sound_segment
returns-in-Ok-Some-sound_segment g c =
    let held = rw c.in-Ok-Some.field-0-is at c.in-Ok-Some.ensures in
    let sound = rw c.in-Ok-Some-sound_segment.field-0-is at c.in-Ok-Some-sound_segment.ensures in
    merge_tells c.args.self.now.catalog.now (contents_of c.args.self.now.files.now) c.args.p c.args.s c.args.bytes.now c.in-Ok-Some-sound_segment.segment c.in-Ok-Some.delta c.requires.there sound held c.can_merge.result c.can_merge.ensures
