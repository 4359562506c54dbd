use Rattle.std.proofs.Common.{get_or}
use Rattle.std.proofs.lemmas.Option.{slice_get-get_or}
use Rattle.cs_schema.specs.declared.file_name.FileName.TheVariants.{Seg}
use Rattle.cs_restore.proofs.UndoLoop.{begun, refused, refused_moments, put_more, synced_moments, part_held, all_held, copies_then}
use Rattle.cs_restore.proofs.undoing.put_back_all.Goals as goal

pub loop-name-init : goal.loop-name-init
loop-name-init g c = begun g.S.Shelf.holds g.S.Shelf.may_leave g.S.Shelf.kept g.S.Shelf.moment g.S.Shelf.left_since g.S.Source.fault_count c.args.back.now c.args.names.now c.args.shelf.now (g.met.S.Shelf.only_now c.args.shelf.now)

pub returns-in-Err-clause-part : goal.returns-in-Err-clause-part
returns-in-Err-clause-part g c =
    refused g.S.Shelf.holds g.S.Shelf.may_leave g.S.Shelf.kept g.S.Shelf.moment g.S.Shelf.left_since g.S.Source.fault_count c.args.back.now c.args.names.now c.args.shelf.now c.loop-name.name-index c.loop-name.shelf c.loop-name.invariant
    (get_or c.args.names.now c.loop-name.name-index (Seg 0 0)) (slice_get-get_or c.args.names.now c.loop-name.name-index (Seg 0 0) c.loop-name-test.true) c.put_back_one.new.shelf c.put_back_one.ensures.stop c.put_back_one.ensures.time c.put_back_one.ensures.may

pub returns-in-Err-clause-copies : goal.returns-in-Err-clause-copies
returns-in-Err-clause-copies g c =
    copies_then g.S.Shelf.holds g.S.Shelf.may_leave g.S.Shelf.kept g.S.Shelf.moment g.S.Shelf.left_since g.S.Source.fault_count c.args.back.now c.args.names.now c.args.shelf.now c.loop-name.name-index c.loop-name.shelf c.loop-name.invariant
    c.put_back_one.new.shelf c.put_back_one.ensures.copies

pub returns-in-Err-clause-any_moment : goal.returns-in-Err-clause-any_moment
returns-in-Err-clause-any_moment g c =
    refused_moments g.S.Shelf.holds g.S.Shelf.may_leave g.S.Shelf.kept g.S.Shelf.moment g.S.Shelf.left_since g.S.Source.fault_count c.args.back.now c.args.names.now c.args.shelf.now c.loop-name.name-index c.loop-name.shelf c.loop-name.invariant
    (get_or c.args.names.now c.loop-name.name-index (Seg 0 0)) (slice_get-get_or c.args.names.now c.loop-name.name-index (Seg 0 0) c.loop-name-test.true) c.put_back_one.new.shelf c.put_back_one.ensures.stop c.put_back_one.ensures.time

pub loop-name-preserved : goal.loop-name-preserved
loop-name-preserved g c =
    put_more g.S.Shelf.holds g.S.Shelf.may_leave g.S.Shelf.kept g.S.Shelf.moment g.S.Shelf.left_since g.S.Source.fault_count c.args.back.now c.args.names.now c.args.shelf.now c.loop-name.name-index c.loop-name.shelf c.loop-name.invariant
    (get_or c.args.names.now c.loop-name.name-index (Seg 0 0)) (slice_get-get_or c.args.names.now c.loop-name.name-index (Seg 0 0) c.loop-name-test.true) c.put_back_one.new.shelf c.put_back_one.ensures.stop c.put_back_one.ensures.time c.in-Ok.ensures.ok c.put_back_one.ensures.copies c.put_back_one.ensures.counted

pub returns-in-Ok-sync-clause-whole : goal.returns-in-Ok-sync-clause-whole
returns-in-Ok-sync-clause-whole g c =
    all_held g.S.Shelf.holds g.S.Shelf.may_leave g.S.Shelf.kept g.S.Shelf.moment g.S.Shelf.left_since g.S.Source.fault_count c.args.back.now c.args.names.now c.args.shelf.now c.loop-name.name-index c.loop-name.shelf c.loop-name.invariant
    c.loop-name-test.false (g.S.Shelf.holds c.sync.new.self) c.sync.ensures.same

pub returns-in-Ok-sync-clause-durable : goal.returns-in-Ok-sync-clause-durable
returns-in-Ok-sync-clause-durable g c =
    all_held g.S.Shelf.holds g.S.Shelf.may_leave g.S.Shelf.kept g.S.Shelf.moment g.S.Shelf.left_since g.S.Source.fault_count c.args.back.now c.args.names.now c.args.shelf.now c.loop-name.name-index c.loop-name.shelf c.loop-name.invariant
    c.loop-name-test.false (g.S.Shelf.may_leave c.sync.new.self) c.in-Ok-sync.ensures.ok

pub returns-in-Ok-sync-clause-part : goal.returns-in-Ok-sync-clause-part
returns-in-Ok-sync-clause-part g c =
    part_held g.S.Shelf.holds g.S.Shelf.may_leave g.S.Shelf.kept g.S.Shelf.moment g.S.Shelf.left_since g.S.Source.fault_count c.args.back.now c.args.names.now c.args.shelf.now c.loop-name.name-index c.loop-name.shelf c.loop-name.invariant
    (g.S.Shelf.holds c.sync.new.self) c.sync.ensures.same

pub returns-in-Ok-sync-clause-copies : goal.returns-in-Ok-sync-clause-copies
returns-in-Ok-sync-clause-copies g c =
    copies_then g.S.Shelf.holds g.S.Shelf.may_leave g.S.Shelf.kept g.S.Shelf.moment g.S.Shelf.left_since g.S.Source.fault_count c.args.back.now c.args.names.now c.args.shelf.now c.loop-name.name-index c.loop-name.shelf c.loop-name.invariant
    c.sync.new.self c.sync.ensures.copies

pub returns-in-Ok-sync-clause-any_moment : goal.returns-in-Ok-sync-clause-any_moment
returns-in-Ok-sync-clause-any_moment g c =
    synced_moments g.S.Shelf.holds g.S.Shelf.may_leave g.S.Shelf.kept g.S.Shelf.moment g.S.Shelf.left_since g.S.Source.fault_count c.args.back.now c.args.names.now c.args.shelf.now c.loop-name.name-index c.loop-name.shelf c.loop-name.invariant
    c.sync.new.self c.sync.ensures.stop c.sync.ensures.time

pub returns-in-Err-sync-clause-part : goal.returns-in-Err-sync-clause-part
returns-in-Err-sync-clause-part g c =
    part_held g.S.Shelf.holds g.S.Shelf.may_leave g.S.Shelf.kept g.S.Shelf.moment g.S.Shelf.left_since g.S.Source.fault_count c.args.back.now c.args.names.now c.args.shelf.now c.loop-name.name-index c.loop-name.shelf c.loop-name.invariant
    (g.S.Shelf.holds c.sync.new.self) c.sync.ensures.same

pub returns-in-Err-sync-clause-copies : goal.returns-in-Err-sync-clause-copies
returns-in-Err-sync-clause-copies g c =
    copies_then g.S.Shelf.holds g.S.Shelf.may_leave g.S.Shelf.kept g.S.Shelf.moment g.S.Shelf.left_since g.S.Source.fault_count c.args.back.now c.args.names.now c.args.shelf.now c.loop-name.name-index c.loop-name.shelf c.loop-name.invariant
    c.sync.new.self c.sync.ensures.copies

pub returns-in-Err-sync-clause-any_moment : goal.returns-in-Err-sync-clause-any_moment
returns-in-Err-sync-clause-any_moment g c =
    synced_moments g.S.Shelf.holds g.S.Shelf.may_leave g.S.Shelf.kept g.S.Shelf.moment g.S.Shelf.left_since g.S.Source.fault_count c.args.back.now c.args.names.now c.args.shelf.now c.loop-name.name-index c.loop-name.shelf c.loop-name.invariant
    c.sync.new.self c.sync.ensures.stop c.sync.ensures.time
