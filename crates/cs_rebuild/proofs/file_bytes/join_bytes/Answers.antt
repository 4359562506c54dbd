use Rattle.std.proofs.Common.{◌≤◌, length, sym, subst, ◌∙◌}
use Rattle.cs_schema.specs.Lists.{IsIn}
use Rattle.cs_rows.specs.Survivors.{contents_of}
use Rattle.cs_order.specs.Tables.{table_of}
use Rattle.cs_recovery.specs.Places.{entries_for}
use Rattle.cs_rebuild.proofs.StoreFacts.{same_entries}
use Rattle.cs_rebuild.proofs.SoundFacts.{entries_are}
use Rattle.cs_rebuild.proofs.WrittenFiles.{text_of}
use Rattle.cs_rebuild.proofs.file_bytes.join_bytes.Goals as goal

pub write_jix-requires-clause-count : goal.write_jix-requires-clause-count
write_jix-requires-clause-count g c =
    let x = c.args.store.now in
    let file = entries_are x.catalog.now c.projection_count-rules.ensures.rules c.requires.sound.0 x.loss x.survivors.now x.walked c.requires.sound.1 c.args.join.0 c.args.join.1 c.args.join.2 c.requires.segment c.requires.target in
    subst (λ l. length l ≤ 4194304) (sym (c.as_slice.ensures.value ∙ c.in_ok-entries.ensures ∙ same_entries x c.new.result.store.now c.new.ensures.store c.args.join.0 c.args.join.1 c.args.join.2 c.new.result.p c.new.result.s c.new.result.q c.new.ensures.segment.0 c.new.ensures.segment.1 c.new.ensures.target)) file.count

pub write_jix-requires-clause-each : goal.write_jix-requires-clause-each
write_jix-requires-clause-each g c e i =
    let x = c.args.store.now in
    let file = entries_are x.catalog.now c.projection_count-rules.ensures.rules c.requires.sound.0 x.loss x.survivors.now x.walked c.requires.sound.1 c.args.join.0 c.args.join.1 c.args.join.2 c.requires.segment c.requires.target in
    file.each e (subst (IsIn e) (c.as_slice.ensures.value ∙ c.in_ok-entries.ensures ∙ same_entries x c.new.result.store.now c.new.ensures.store c.args.join.0 c.args.join.1 c.args.join.2 c.new.result.p c.new.result.s c.new.result.q c.new.ensures.segment.0 c.new.ensures.segment.1 c.new.ensures.target) i)

pub returns : goal.returns
returns g c =
    let x = c.args.store.now in
    let C = x.catalog.now in
    text_of (λ b. b.items) c.args.join.0 c.args.join.1 c.args.join.2 c.as_slice.result.now (entries_for C x.loss (contents_of x.survivors.now) (table_of C x.walked.rows) c.args.join.0 c.args.join.1 c.args.join.2) c.write_jix.result (c.as_slice.ensures.value ∙ c.in_ok-entries.ensures ∙ same_entries x c.new.result.store.now c.new.ensures.store c.args.join.0 c.args.join.1 c.args.join.2 c.new.result.p c.new.result.s c.new.result.q c.new.ensures.segment.0 c.new.ensures.segment.1 c.new.ensures.target) c.write_jix.ensures
