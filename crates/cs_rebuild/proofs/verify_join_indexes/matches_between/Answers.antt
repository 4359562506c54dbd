use Rattle.std.proofs.Common.{◌≡◌, ◌+◌, ◌<◌, length, sym, ap, subst, ◌∙◌, true, arith, get_or}
use Rattle.cs_schema.proofs.Ascending.{false≢true}
use Rattle.cs_jix.specs.JoinIndex.{no_place}
use Rattle.cs_rows.specs.Survivors.{contents_of}
use Rattle.cs_order.specs.Tables.{table_of}
use Rattle.cs_recovery.specs.Holding.{agrees}
use Rattle.cs_recovery.specs.Places.{entry_for}
use Rattle.cs_rebuild.proofs.Entries.{raw_is}
use Rattle.cs_rebuild.proofs.Numbers.{by_equal}
use Rattle.cs_rebuild.proofs.verify_join_indexes.matches_between.Goals as goal

pub returns-then-not-agrees : goal.returns-then-not-agrees
returns-then-not-agrees c =
    let e = c.args.entries.now in
    let g = e.store.now in
    let i = c.loop-i.i in
    let entry = entry_for g.catalog.now g.loss (contents_of g.survivors.now) (table_of g.catalog.now g.walked.rows) e.p e.s e.q (i + 1) in
    let inside : i < length c.args.index.now = omega (arith, c.loop-i-test.true, c.requires.within) in
    let found = ap (λ x. agrees g.catalog.now g.loss e.q x entry) (c.entry_or_zero.ensures ∙ raw_is c.args.index.now c.requires.raw i inside) in
    let place = ap (λ y. agrees g.catalog.now g.loss e.q c.entry_or_zero.result y) c.at-place.ensures.entry in (
      λ f. absurd (false≢true f),
      λ h. absurd (false≢true (sym c.if-not-agrees.true ∙ c.agrees.ensures ∙ place ∙ found ∙ h i (omega arith) (omega (arith, c.loop-i-test.true)))),
    )

pub loop-i-preserved : goal.loop-i-preserved
loop-i-preserved c m z l =
    let e = c.args.entries.now in
    let g = e.store.now in
    let i = c.loop-i.i in
    let entry = entry_for g.catalog.now g.loss (contents_of g.survivors.now) (table_of g.catalog.now g.walked.rows) e.p e.s e.q (i + 1) in
    let inside : i < length c.args.index.now = omega (arith, c.loop-i-test.true, c.requires.within) in
    let found = ap (λ x. agrees g.catalog.now g.loss e.q x entry) (sym (c.entry_or_zero.ensures ∙ raw_is c.args.index.now c.requires.raw i inside)) in
    let place = ap (λ y. agrees g.catalog.now g.loss e.q c.entry_or_zero.result y) (sym c.at-place.ensures.entry) in
    by_equal m i
    (λ k. subst (λ n. agrees g.catalog.now g.loss e.q (get_or c.args.index.now n no_place) (entry_for g.catalog.now g.loss (contents_of g.survivors.now) (table_of g.catalog.now g.walked.rows) e.p e.s e.q (n + 1)) ≡ true) (sym k) (found ∙ place ∙ sym c.agrees.ensures ∙ c.if-not-agrees.false))
    (λ n. c.loop-i.invariant m z (omega (arith, l, n)))
