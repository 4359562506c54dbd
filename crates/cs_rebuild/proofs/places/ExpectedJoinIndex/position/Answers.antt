use Rattle.std.proofs.Common.{◌≡◌, true, false, Some, subst, map, length, sym, ap, ◌∙◌, arith}
use Rattle.std.proofs.lemmas.List.{length-map}
use Rattle.std.specs.Prelude.{MatchOption}
use Rattle.cs_schema.specs.Losses.{lost}
use Rattle.cs_schema.specs.Order.{rows_of}
use Rattle.cs_schema.specs.Rows.{project}
use Rattle.cs_delta.specs.Image.{position_of_key, fresh_image}
use Rattle.cs_rows.specs.Survivors.{contents_of, image_at}
use Rattle.cs_order.specs.Tables.{table_of}
use Rattle.cs_rebuild.proofs.Indexes.{is_fresh, fresh_position, no_fresh_zero, no_fresh_past}
use Rattle.cs_rebuild.proofs.OrderFacts.{count_there}
use Rattle.cs_rebuild.proofs.places.ExpectedJoinIndex.position.Goals as goal

pub returns-then-key-eq0 : goal.returns-then-key-eq0
returns-then-key-eq0 c =
    let g = c.args.self.now.store.now in
    let C = g.catalog.now in
    let rows = g.walked.rows in
    let cells = map (project C c.args.self.now.p) (rows_of C (table_of C rows) c.args.self.now.p c.args.self.now.s) in
    sym (ap (λ m. position_of_key m c.args.key) (is_fresh C rows g.loss (contents_of g.survivors.now) c.args.self.now.p c.args.self.now.s (subst (λ o. MatchOption o (lost C g.loss c.args.self.now.p c.args.self.now.s ≡ true) (λ m. (lost C g.loss c.args.self.now.p c.args.self.now.s ≡ false) × (image_at g.survivors.now c.args.self.now.p c.args.self.now.s ≡ Some m.now))) c.in-None.is c.args.self.now.kept_is)) ∙ ap (position_of_key (fresh_image cells)) c.if-key-eq0.true ∙ no_fresh_zero cells)

pub returns-then-key-self : goal.returns-then-key-self
returns-then-key-self c =
    let g = c.args.self.now.store.now in
    let C = g.catalog.now in
    let rows = g.walked.rows in
    let cells = map (project C c.args.self.now.p) (rows_of C (table_of C rows) c.args.self.now.p c.args.self.now.s) in
    let long : length cells ≡ length (rows_of C (table_of C rows) c.args.self.now.p c.args.self.now.s) = length-map (rows_of C (table_of C rows) c.args.self.now.p c.args.self.now.s) (project C c.args.self.now.p) in
    let count = count_there C rows g.orders g.order_room g.each c.args.self.now.p c.args.self.now.s c.args.self.now.segment.0 in
    let numbers = ap length c.args.self.now.numbers_are in
    sym (ap (λ m. position_of_key m c.args.key) (is_fresh C rows g.loss (contents_of g.survivors.now) c.args.self.now.p c.args.self.now.s (subst (λ o. MatchOption o (lost C g.loss c.args.self.now.p c.args.self.now.s ≡ true) (λ m. (lost C g.loss c.args.self.now.p c.args.self.now.s ≡ false) × (image_at g.survivors.now c.args.self.now.p c.args.self.now.s ≡ Some m.now))) c.in-None.is c.args.self.now.kept_is)) ∙ no_fresh_past cells c.args.key (omega (arith, long, count, numbers, c.if-key-self.true)))

pub returns-else-key-self : goal.returns-else-key-self
returns-else-key-self c =
    let g = c.args.self.now.store.now in
    let C = g.catalog.now in
    let rows = g.walked.rows in
    let cells = map (project C c.args.self.now.p) (rows_of C (table_of C rows) c.args.self.now.p c.args.self.now.s) in
    let long : length cells ≡ length (rows_of C (table_of C rows) c.args.self.now.p c.args.self.now.s) = length-map (rows_of C (table_of C rows) c.args.self.now.p c.args.self.now.s) (project C c.args.self.now.p) in
    let count = count_there C rows g.orders g.order_room g.each c.args.self.now.p c.args.self.now.s c.args.self.now.segment.0 in
    let numbers = ap length c.args.self.now.numbers_are in
    sym (ap (λ m. position_of_key m c.args.key) (is_fresh C rows g.loss (contents_of g.survivors.now) c.args.self.now.p c.args.self.now.s (subst (λ o. MatchOption o (lost C g.loss c.args.self.now.p c.args.self.now.s ≡ true) (λ m. (lost C g.loss c.args.self.now.p c.args.self.now.s ≡ false) × (image_at g.survivors.now c.args.self.now.p c.args.self.now.s ≡ Some m.now))) c.in-None.is c.args.self.now.kept_is)) ∙ fresh_position cells c.args.key (omega (arith, c.if-key-eq0.false)) (omega (arith, long, count, numbers, c.if-key-self.false)))
