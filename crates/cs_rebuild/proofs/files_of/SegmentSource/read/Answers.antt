use Rattle.std.proofs.Common.{length}
use Rattle.cs_store.specs.FileSet.{contents_of}
use Rattle.cs_rebuild.specs.Reading.{HoldsBase, resealed}
use Rattle.cs_rebuild.proofs.Verdicts.{memory_or}
use Rattle.cs_rebuild.proofs.Names.{base_sound, bad_base, bad_changes, bad_join, join_sound, all_sound}
use Rattle.cs_rebuild.proofs.files_of.SegmentSource.read.Goals as goal

pub returns-in-Err-clause-err : goal.returns-in-Err-clause-err
returns-in-Err-clause-err g c =
    memory_or _ (rw c.in-Err.is at c.read_each-delta.ensures.base.1) (bad_base c.args.self.now.catalog.now (resealed (contents_of c.args.self.now.files.now)) c.args.self.now.p c.args.self.now.s c.args.self.now.exists _)

pub returns-in-Err-delta-clause-err : goal.returns-in-Err-delta-clause-err
returns-in-Err-delta-clause-err g c =
    let base : HoldsBase c.args.self.now.catalog.now (resealed (contents_of c.args.self.now.files.now)) c.args.self.now.p c.args.self.now.s c.in-Ok.segment = rw c.in-Ok.is at c.read_each-delta.ensures.base.0 in
    memory_or _ (rw c.in-Err-delta.is at c.read_each-delta.ensures.others.refused) (bad_changes c.args.self.now.catalog.now (resealed (contents_of c.args.self.now.files.now)) c.args.self.now.p c.args.self.now.s c.args.self.now.exists _ (base_sound c.args.self.now.catalog.now (resealed (contents_of c.args.self.now.files.now)) c.args.self.now.p c.args.self.now.s c.args.self.now.exists _ base))

pub merge_image-requires-clause-base : goal.merge_image-requires-clause-base
merge_image-requires-clause-base g c = rw c.in-Ok.is at c.read_each-delta.ensures.base.0

pub merge_image-requires-clause-changes : goal.merge_image-requires-clause-changes
merge_image-requires-clause-changes g c = rw c.in-Ok-delta.is at c.read_each-delta.ensures.others.changes

pub returns-in-Err-merge_image-clause-err : goal.returns-in-Err-merge_image-clause-err
returns-in-Err-merge_image-clause-err g c =
    let base : HoldsBase c.args.self.now.catalog.now (resealed (contents_of c.args.self.now.files.now)) c.args.self.now.p c.args.self.now.s c.in-Ok.segment = rw c.in-Ok.is at c.read_each-delta.ensures.base.0 in
    memory_or _ c.in-Err-merge_image.ensures.err (bad_changes c.args.self.now.catalog.now (resealed (contents_of c.args.self.now.files.now)) c.args.self.now.p c.args.self.now.s c.args.self.now.exists _ (base_sound c.args.self.now.catalog.now (resealed (contents_of c.args.self.now.files.now)) c.args.self.now.p c.args.self.now.s c.args.self.now.exists _ base))

pub returns-in-Ok-joins-clause-sound : goal.returns-in-Ok-joins-clause-sound
returns-in-Ok-joins-clause-sound g c =
    let base : HoldsBase c.args.self.now.catalog.now (resealed (contents_of c.args.self.now.files.now)) c.args.self.now.p c.args.self.now.s c.in-Ok.segment = rw c.in-Ok.is at c.read_each-delta.ensures.base.0 in
    all_sound c.args.self.now.catalog.now (resealed (contents_of c.args.self.now.files.now)) c.args.self.now.p c.args.self.now.s c.args.self.now.exists c.read_each-delta.ensures.rules
    (base_sound c.args.self.now.catalog.now (resealed (contents_of c.args.self.now.files.now)) c.args.self.now.p c.args.self.now.s c.args.self.now.exists _ base)
    (c.in-Ok-merge_image.image.image, c.in-Ok-merge_image.ensures.ok.0)
    (join_sound c.args.self.now.catalog.now (resealed (contents_of c.args.self.now.files.now)) c.args.self.now.p c.args.self.now.s c.args.self.now.exists c.in-Ok-joins.joins.items (length c.args.self.now.catalog.now.projections) (rw c.in-Ok-joins.is at c.read_each-delta.ensures.others.targets) (rw c.in-Ok-joins.is at c.read_each-delta.ensures.others.joins))

pub returns-in-Ok-joins-clause-ok : goal.returns-in-Ok-joins-clause-ok
returns-in-Ok-joins-clause-ok g c = record {
  image = c.in-Ok-merge_image.ensures.ok;
  targets = rw c.in-Ok-joins.is at c.read_each-delta.ensures.others.targets;
  joins = rw c.in-Ok-joins.is at c.read_each-delta.ensures.others.joins;
}

pub returns-clause-err : goal.returns-clause-err
returns-clause-err g c =
    let base : HoldsBase c.args.self.now.catalog.now (resealed (contents_of c.args.self.now.files.now)) c.args.self.now.p c.args.self.now.s c.in-Ok.segment = rw c.in-Ok.is at c.read_each-delta.ensures.base.0 in
    memory_or _ (rw c.in-Err-joins.is at c.read_each-delta.ensures.others.bad) (bad_join c.args.self.now.catalog.now (resealed (contents_of c.args.self.now.files.now)) c.args.self.now.p c.args.self.now.s c.args.self.now.exists _
    (base_sound c.args.self.now.catalog.now (resealed (contents_of c.args.self.now.files.now)) c.args.self.now.p c.args.self.now.s c.args.self.now.exists _ base)
    (c.in-Ok-merge_image.image.image, c.in-Ok-merge_image.ensures.ok.0))
