use Rattle.std.proofs.Common.{◌≡◌, ◌==◌, ◌+◌, ◌<◌, length, sym, subst, ◌∙◌, Some, None, arith, get_or}
use Rattle.cs_schema.specs.Lists.{IsIn, member}
use Rattle.cs_jix.specs.JoinIndex.{no_place}
use Rattle.cs_rows.specs.Survivors.{contents_of}
use Rattle.cs_order.specs.Tables.{table_of}
use Rattle.cs_rebuild.proofs.Entries.{raw_is}
use Rattle.cs_rebuild.proofs.StoreFacts.{same_top}
use Rattle.cs_diagnosis.specs.Conflicts.{IsKeyConflict, IsJoinConflict}
use Rattle.cs_diagnosis.proofs.EntryFacts.{same_conflict}
use Rattle.cs_diagnosis.proofs.JoinEntries.{AgreeBelow, none_below, agrees_too, conflicts_too, short, contradicts, whole}
use Rattle.cs_diagnosis.proofs.joins.others_of.Goals as goal
use Rattle.cs_diagnosis.proofs.joins.others_of.Goals.{in-None, in-Some+else-other-site}

pub new-entries-requires-clause-target : goal.new-entries-requires-clause-target
new-entries-requires-clause-target c = ((c.projection_count-rules.ensures.rules.projections c.args.p c.requires.survives.0.0.0).joins c.args.q c.requires.survives.0.1).0

pub returns-then-top : goal.returns-then-top
returns-then-top c =
    let g = c.args.store.now in
    let C = g.catalog.now in
    let S = contents_of g.survivors.now in
    let rows = g.walked.rows in
    let join = c.args.join.now in
    let e = c.new-entries.ensures in
    let top = c.top-top.ensures ∙ same_top g c.new-entries.result.store.now e.store c.args.p c.args.s c.args.q c.new-entries.result.p c.new-entries.result.s c.new-entries.result.q e.segment.0 e.segment.1 in
    subst (λ x. IsJoinConflict C g.loss S (table_of C rows) (c.args.p, c.args.s, c.args.q) (x, c.site_alone.result)) (sym c.requires.site)
    (short C g.loss S rows c.args.p c.args.s c.args.q join c.requires.join c.site_alone.result (λ x. subst (λ y. member c.site_alone.result x ≡ (x == y)) c.requires.site (c.site_alone.ensures x)) (λ same. c.if-top.true (c.top.ensures ∙ same ∙ sym top)))

pub loop-i-init : goal.loop-i-init
loop-i-init c =
    let g = c.args.store.now in
    subst (AgreeBelow g.catalog.now g.loss (contents_of g.survivors.now) g.walked.rows c.args.p c.args.s c.args.q c.args.join.now 0) (sym c.none-others.ensures)
    (none_below g.catalog.now g.loss (contents_of g.survivors.now) g.walked.rows c.args.p c.args.s c.args.q c.args.join.now)

pub returns-then-other-site : goal.returns-then-other-site
returns-then-other-site c =
    let g = c.args.store.now in
    let C = g.catalog.now in
    let S = contents_of g.survivors.now in
    let rows = g.walked.rows in
    let join = c.args.join.now in
    let e = c.new-entries.ensures in
    let top = c.top-top.ensures ∙ same_top g c.new-entries.result.store.now e.store c.args.p c.args.s c.args.q c.new-entries.result.p c.new-entries.result.s c.new-entries.result.q e.segment.0 e.segment.1 in
    let i = c.loop-i.i in
    let inside : i < length join = omega (arith, c.loop-i-test.true, c.if-top.false, c.top.ensures) in
    let entry = c.entry_or_zero.ensures ∙ raw_is join (λ x m none. g.entries c.args.p c.args.s c.args.q x c.requires.survives (subst (IsIn x) c.requires.join m) none) i inside in
    let conflict = same_conflict g c.new-entries.result.store.now e.store c.args.p c.args.s c.args.q c.new-entries.result.p c.new-entries.result.s c.new-entries.result.q e.segment.0 e.segment.1 e.target (i + 1) c.entry_or_zero.result (get_or join i no_place) entry (Some c.in-Some.other) c.in-Some.ensures.conflict in
    let own = subst (λ x. IsKeyConflict C g.loss S (table_of C rows) c.args.p c.args.s c.args.q (i + 1) (get_or join i no_place) (Some x)) (c.if-other-site.true ∙ c.requires.site) conflict in
    subst (λ x. IsJoinConflict C g.loss S (table_of C rows) (c.args.p, c.args.s, c.args.q) (x, c.site_alone-then-other-site.result)) (sym c.requires.site)
    (contradicts C g.loss S rows c.args.p c.args.s c.args.q join c.requires.join c.site_alone-then-other-site.result
    (λ x. subst (λ y. member c.site_alone-then-other-site.result x ≡ (x == y)) c.requires.site (c.site_alone-then-other-site.ensures x)) i (omega (arith, c.loop-i-test.true, top)) own)

pub loop-i-preserved : goal.loop-i-preserved
loop-i-preserved c =
    let g = c.args.store.now in
    let C = g.catalog.now in
    let S = contents_of g.survivors.now in
    let rows = g.walked.rows in
    let join = c.args.join.now in
    let e = c.new-entries.ensures in
    let top = c.top-top.ensures ∙ same_top g c.new-entries.result.store.now e.store c.args.p c.args.s c.args.q c.new-entries.result.p c.new-entries.result.s c.new-entries.result.q e.segment.0 e.segment.1 in
    let i = c.loop-i.i in
    let inside : i < length join = omega (arith, c.loop-i-test.true, c.if-top.false, c.top.ensures) in
    let entry = c.entry_or_zero.ensures ∙ raw_is join (λ x m none. g.entries c.args.p c.args.s c.args.q x c.requires.survives (subst (IsIn x) c.requires.join m) none) i inside in
    elim c.match-key_conflict.branch [
      | in-None w ↦
          subst (AgreeBelow C g.loss S rows c.args.p c.args.s c.args.q join (i + 1)) (sym w.others-is)
          (agrees_too C g.loss S rows c.args.p c.args.s c.args.q join i c.loop-i.others c.loop-i.invariant (same_conflict g c.new-entries.result.store.now e.store c.args.p c.args.s c.args.q c.new-entries.result.p c.new-entries.result.s c.new-entries.result.q e.segment.0 e.segment.1 e.target (i + 1) c.entry_or_zero.result (get_or join i no_place) entry None w.in-None.ensures.conflict))
      | in-Some+else-other-site w ↦
          subst (AgreeBelow C g.loss S rows c.args.p c.args.s c.args.q join (i + 1)) (sym w.others-is)
          (conflicts_too C g.loss S rows c.args.p c.args.s c.args.q join i c.loop-i.others c.loop-i.invariant w.in-Some.other (same_conflict g c.new-entries.result.store.now e.store c.args.p c.args.s c.args.q c.new-entries.result.p c.new-entries.result.s c.new-entries.result.q e.segment.0 e.segment.1 e.target (i + 1) c.entry_or_zero.result (get_or join i no_place) entry (Some w.in-Some.other) w.in-Some.ensures.conflict) w.with-others.result w.with-others.ensures.members)
    ]

pub returns : goal.returns
returns c =
    let g = c.args.store.now in
    let C = g.catalog.now in
    let S = contents_of g.survivors.now in
    let rows = g.walked.rows in
    let join = c.args.join.now in
    let e = c.new-entries.ensures in
    let top = c.top-top.ensures ∙ same_top g c.new-entries.result.store.now e.store c.args.p c.args.s c.args.q c.new-entries.result.p c.new-entries.result.s c.new-entries.result.q e.segment.0 e.segment.1 in
    subst (λ x. IsJoinConflict C g.loss S (table_of C rows) (c.args.p, c.args.s, c.args.q) (x, c.loop-i.others)) (sym c.requires.site)
    (whole C g.loss S rows c.args.p c.args.s c.args.q join c.requires.join (sym c.top.ensures ∙ c.if-top.false ∙ top) c.loop-i.others
    (λ L around gone images. (
      λ w m l. (c.loop-i.invariant L around gone images).0 w m (omega (arith, l, c.loop-i-test.false, top)),
      λ f. (c.loop-i.invariant L around gone images).1 (λ m l. f m (omega (arith, l, c.loop-i-test.false, top, c.loop-i.auto.i-end))),
    )))
