use Rattle.std.proofs.Common.{◌≡◌, sym, ap, subst, ◌∙◌, inl, inr, Some, arith, get_or}
use Rattle.cs_schema.specs.CatalogData.{HasSegment}
use Rattle.cs_jix.specs.JoinIndex.{Place}
use Rattle.cs_rows.specs.Survivors.{contents_of}
use Rattle.cs_order.specs.Orders.{row_at}
use Rattle.cs_order.specs.Tables.{table_of}
use Rattle.cs_rebuild.proofs.Indexes.{place_there, is_kept}
use Rattle.cs_diagnosis.specs.Conflicts.{IsKeyConflict}
use Rattle.cs_diagnosis.proofs.EntryFacts.{position_below, row_is, rows_count, positive}
use Rattle.cs_diagnosis.proofs.Keys.{key_in, past, wrong, right, lost_first, other}
use Rattle.cs_diagnosis.proofs.joins.key_conflict.Goals as goal
use Rattle.cs_diagnosis.proofs.joins.key_conflict.Goals.{then-entry-place-via-then-entry-place, then-entry-place-via-else-entry-place+then-entry-eq0, then-entry-place-2-via-then-entry-place-2, then-entry-place-2-via-else-entry-place-2+then-lost}

pub returns-then-position-entries-clause-conflict : goal.returns-then-position-entries-clause-conflict
returns-then-position-entries-clause-conflict c =
    let e = c.args.entries.now in
    let g = e.store.now in
    let C = g.catalog.now in
    let S = contents_of g.survivors.now in
    let rows = g.walked.rows in
    let i = c.in-Some.position in
    let live = sym c.position.ensures ∙ c.in-Some.is in
    let kept = is_kept C rows g.loss S e.p e.s c.requires.survives.1 in
    let inside = position_below (S.image e.p e.s) c.args.key i (sym (ap (λ m. Rattle.cs_delta.specs.Image.position_of_key m c.args.key) kept) ∙ live) in
    subst (λ x. IsKeyConflict C g.loss S (table_of C rows) e.p e.s e.q c.args.key c.args.entry (Some x)) (sym c.requires.site)
    (past C g.loss S rows e.p e.s e.q c.args.key c.args.entry i live e.segment inside (omega (arith, rows_count e, c.if-position-entries.true)))

pub returns-then-entry-place-clause-conflict : goal.returns-then-entry-place-clause-conflict
returns-then-entry-place-clause-conflict c =
    let e = c.args.entries.now in
    let g = e.store.now in
    let C = g.catalog.now in
    let S = contents_of g.survivors.now in
    let rows = g.walked.rows in
    let i = c.in-Some.position in
    let live = sym c.position.ensures ∙ c.in-Some.is in
    let r = row_at rows (get_or e.numbers.now i 0) in
    let row = row_is e i (omega (arith, c.if-position-entries.false)) in
    let t = c.place-place.result.0 in
    let j = c.place-place.ensures.there.0 in
    let at = c.place-place.ensures.there.1 in
    let there : HasSegment C e.q t = (e.target, c.place-place.ensures.exists) in
    subst (λ x. IsKeyConflict C g.loss S (table_of C rows) e.p e.s e.q c.args.key c.args.entry (Some x)) (sym c.requires.site)
    (wrong C g.loss S rows e.p e.s e.q c.args.key c.args.entry i live r row t j at there (positive e)
    (elim c.then-entry-place.branch [ then-entry-place-via-then-entry-place w ↦ inl w.if-entry-place.true | then-entry-place-via-else-entry-place+then-entry-eq0 w ↦ inr w.if-entry-eq0.true ]))

pub returns-then-entry-place-2-clause-conflict : goal.returns-then-entry-place-2-clause-conflict
returns-then-entry-place-2-clause-conflict c =
    let e = c.args.entries.now in
    let g = e.store.now in
    let C = g.catalog.now in
    let S = contents_of g.survivors.now in
    let rows = g.walked.rows in
    let i = c.in-Some.position in
    let live = sym c.position.ensures ∙ c.in-Some.is in
    let r = row_at rows (get_or e.numbers.now i 0) in
    let row = row_is e i (omega (arith, c.if-position-entries.false)) in
    let t = c.place-place.result.0 in
    let j = c.place-place.ensures.there.0 in
    let at = c.place-place.ensures.there.1 in
    let there : HasSegment C e.q t = (e.target, c.place-place.ensures.exists) in
    let key_is : c.place-place.result.1 ≡ key_in C g.loss S rows e.p e.s e.q c.args.key c.args.entry i live r row t j at there (positive e) g.loss = ap (λ (x : Place). x.1) (c.place-place.ensures.place ∙ place_there C rows g.loss S e.q t j r at) in
    elim c.then-entry-place-2.branch [
      | then-entry-place-2-via-then-entry-place-2 w ↦ right C g.loss S rows e.p e.s e.q c.args.key c.args.entry i live r row t j at there (positive e) c.if-entry-place.false (omega (arith, c.if-entry-eq0.false)) (w.if-entry-place-2.true ∙ key_is)
      | then-entry-place-2-via-else-entry-place-2+then-lost w ↦ lost_first C g.loss S rows e.p e.s e.q c.args.key c.args.entry i live r row t j at there (positive e) c.if-entry-place.false (omega (arith, c.if-entry-eq0.false)) (sym w.lost.ensures ∙ w.if-lost.true)
    ]

pub returns-clause-conflict : goal.returns-clause-conflict
returns-clause-conflict c =
    let e = c.args.entries.now in
    let g = e.store.now in
    let C = g.catalog.now in
    let S = contents_of g.survivors.now in
    let rows = g.walked.rows in
    let i = c.in-Some.position in
    let live = sym c.position.ensures ∙ c.in-Some.is in
    let r = row_at rows (get_or e.numbers.now i 0) in
    let row = row_is e i (omega (arith, c.if-position-entries.false)) in
    let t = c.place-place.result.0 in
    let j = c.place-place.ensures.there.0 in
    let at = c.place-place.ensures.there.1 in
    let there : HasSegment C e.q t = (e.target, c.place-place.ensures.exists) in
    let key_is : c.place-place.result.1 ≡ key_in C g.loss S rows e.p e.s e.q c.args.key c.args.entry i live r row t j at there (positive e) g.loss = ap (λ (x : Place). x.1) (c.place-place.ensures.place ∙ place_there C rows g.loss S e.q t j r at) in
    subst (λ x. IsKeyConflict C g.loss S (table_of C rows) e.p e.s e.q c.args.key c.args.entry (Some x)) (sym c.site.ensures.site)
    (other C g.loss S rows e.p e.s e.q c.args.key c.args.entry i live r row t j at there (positive e) c.if-entry-place.false (omega (arith, c.if-entry-eq0.false)) (λ same. c.if-entry-place-2.false (same ∙ sym key_is)))
