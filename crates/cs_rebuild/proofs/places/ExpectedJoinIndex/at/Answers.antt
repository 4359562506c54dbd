use Rattle.std.proofs.Common.{ℕ, length, sym, ap, ◌∙◌, arith, get_or}
use Rattle.std.specs.List.{slice_get}
use Rattle.std.proofs.lemmas.Option.{slice_get-get_or, slice_get_past}
use Rattle.cs_schema.specs.Order.{rows_of}
use Rattle.cs_rows.specs.Survivors.{contents_of}
use Rattle.cs_order.specs.Orders.{row_at}
use Rattle.cs_order.specs.Tables.{table_of}
use Rattle.cs_rebuild.proofs.Indexes.{entry_there, entry_past}
use Rattle.cs_rebuild.proofs.OrderFacts.{row_there, count_there}
use Rattle.cs_rebuild.proofs.places.ExpectedJoinIndex.at.Goals as goal

pub returns-then-position-self-clause-entry : goal.returns-then-position-self-clause-entry
returns-then-position-self-clause-entry c =
    let g = c.args.self.now.store.now in
    let C = g.catalog.now in
    let rows = g.walked.rows in
    let i = c.in-Some.position in
    let n : ℕ = get_or c.args.self.now.numbers.now i 0 in
    let at = ap (λ l. slice_get l i) (sym c.args.self.now.numbers_are) ∙ slice_get-get_or c.args.self.now.numbers.now i 0 c.if-position-self.true in
    let there = row_there C rows g.orders g.order_room g.each c.args.self.now.p c.args.self.now.s i n c.args.self.now.segment.0 at in
    c.place.ensures.place ∙ sym (entry_there C rows g.loss (contents_of g.survivors.now) c.args.self.now.p c.args.self.now.s c.args.self.now.q c.args.key i (sym c.position.ensures ∙ c.in-Some.is) (row_at rows n) there)

pub returns-else-position-self-clause-entry : goal.returns-else-position-self-clause-entry
returns-else-position-self-clause-entry c =
    let g = c.args.self.now.store.now in
    let C = g.catalog.now in
    let rows = g.walked.rows in
    let i = c.in-Some.position in
    let count = count_there C rows g.orders g.order_room g.each c.args.self.now.p c.args.self.now.s c.args.self.now.segment.0 in
    let numbers = ap length c.args.self.now.numbers_are in
    sym (entry_past C rows g.loss (contents_of g.survivors.now) c.args.self.now.p c.args.self.now.s c.args.self.now.q c.args.key i (sym c.position.ensures ∙ c.in-Some.is) (slice_get_past (rows_of C (table_of C rows) c.args.self.now.p c.args.self.now.s) i (omega (arith, count, numbers, c.if-position-self.false))))
