use Rattle.std.proofs.Common.{[], ◌∷◌, replicate, length, ap, ◌∙◌, arith}
use Rattle.std.proofs.lemmas.List.{length-append, length-replicate}
use Rattle.cs_codec.proofs.RunReading.{count_of-part}
use Rattle.cs_codec.proofs.RunColumnReading.{none_here, next_here, differs_here, grown_by, has_read_more, none_read, all_read, ended_here}
use Rattle.cs_codec.proofs.run_reading.read_column.Goals as goal

pub loop-at-init : goal.loop-at-init
loop-at-init g c = record {
  has_read = none_read g.C.Cell.bytes g.C.Cell.is_cell g.C.PartialEq.eq c.args.bytes.now c.args.rows _ (c.reserve.ensures ∙ c.new-cells.ensures);
  count_is = omega (arith, ap length (c.reserve.ensures ∙ c.new-cells.ensures));
}

pub overflow_add-count : goal.overflow_add-count
overflow_add-count g c = omega (arith, c.requires, c.loop-at.invariant.has_read.few, c.loop-at.invariant.count_is)

pub overflow_sub-rows : goal.overflow_sub-rows
overflow_sub-rows g c = omega (arith, c.loop-at.invariant.has_read.few, c.loop-at.invariant.count_is)

pub differs-requires : goal.differs-requires
differs-requires g c =
    let found = (rw c.in-Some.is at c.in_ok-position.ensures.found) in
    omega (arith, ap length found.added, length-append (g.L.Column.cells c.loop-at.cells) (found.value ∷ []), c.loop-at.invariant.count_is)

pub repeat_at-requires : goal.repeat_at-requires
repeat_at-requires g c =
    let found = (rw c.in-Some.is at c.in_ok-position.ensures.found) in
    omega (arith, ap length found.added, length-append (g.L.Column.cells c.loop-at.cells) (found.value ∷ []), c.loop-at.invariant.count_is)

pub loop-at-smaller : goal.loop-at-smaller
loop-at-smaller g c =
    let found = (rw c.in-Some.is at c.in_ok-position.ensures.found) in
    omega (arith, found.stands.later, found.stands.within)

pub returns-in_default-clause-not_a_text : goal.returns-in_default-clause-not_a_text
returns-in_default-clause-not_a_text g c = λ _ others h.
    none_here g.C.Cell.bytes g.C.Cell.is_cell g.C.PartialEq.eq (record { itself = g.met.C.Eq.laws.refl; exact = g.met.C.Cell.exact }) g.met.C.Cell.begins_one c.args.bytes.now c.args.rows c.loop-at.at (g.L.Column.cells c.loop-at.cells) others c.requires c.loop-at.invariant.has_read c.loop-at-test.true h (rw c.in_default.is at c.in_ok-position.ensures.none)

pub returns-then-position-count-clause-not_a_text : goal.returns-then-position-count-clause-not_a_text
returns-then-position-count-clause-not_a_text g c = λ _ others h.
    let found = (rw c.in-Some.is at c.in_ok-position.ensures.found) in
    let next = next_here g.C.Cell.bytes g.C.Cell.is_cell g.C.PartialEq.eq (record { itself = g.met.C.Eq.laws.refl; exact = g.met.C.Cell.exact }) g.met.C.Cell.begins_one c.args.bytes.now c.args.rows c.loop-at.at (g.L.Column.cells c.loop-at.cells) (g.L.Column.cells c.read_run.new.cells) others c.in-Some.position c.in-Some.length c.in-Some.end c.requires c.loop-at.invariant.has_read c.loop-at-test.true h found in
    let size = ap length c.loop-at.invariant.has_read.cells_are in
    absurd (omega (arith, next.position_is, c.loop-at.invariant.count_is))

pub returns-then-length-rows-clause-not_a_text : goal.returns-then-length-rows-clause-not_a_text
returns-then-length-rows-clause-not_a_text g c = λ _ others h.
    let found = (rw c.in-Some.is at c.in_ok-position.ensures.found) in
    let next = next_here g.C.Cell.bytes g.C.Cell.is_cell g.C.PartialEq.eq (record { itself = g.met.C.Eq.laws.refl; exact = g.met.C.Cell.exact }) g.met.C.Cell.begins_one c.args.bytes.now c.args.rows c.loop-at.at (g.L.Column.cells c.loop-at.cells) (g.L.Column.cells c.read_run.new.cells) others c.in-Some.position c.in-Some.length c.in-Some.end c.requires c.loop-at.invariant.has_read c.loop-at-test.true h found in
    let size = ap length c.loop-at.invariant.has_read.cells_are in
    absurd (omega (arith, next.few, c.loop-at.invariant.count_is))

pub returns-then-length-eq0-clause-not_a_text : goal.returns-then-length-eq0-clause-not_a_text
returns-then-length-eq0-clause-not_a_text g c = λ _ others h.
    let found = (rw c.in-Some.is at c.in_ok-position.ensures.found) in
    let next = next_here g.C.Cell.bytes g.C.Cell.is_cell g.C.PartialEq.eq (record { itself = g.met.C.Eq.laws.refl; exact = g.met.C.Cell.exact }) g.met.C.Cell.begins_one c.args.bytes.now c.args.rows c.loop-at.at (g.L.Column.cells c.loop-at.cells) (g.L.Column.cells c.read_run.new.cells) others c.in-Some.position c.in-Some.length c.in-Some.end c.requires c.loop-at.invariant.has_read c.loop-at-test.true h found in
    let size = ap length c.loop-at.invariant.has_read.cells_are in
    let some = count_of-part g.C.PartialEq.eq c.loop-at.invariant.has_read.runs _ next.rest next.proper in
    absurd (omega (arith, some))

pub returns-then-not-differs-clause-not_a_text : goal.returns-then-not-differs-clause-not_a_text
returns-then-not-differs-clause-not_a_text g c = λ _ others h.
    let found = (rw c.in-Some.is at c.in_ok-position.ensures.found) in
    c.differs.ensures.no (cc) (differs_here g.C.Cell.bytes g.C.Cell.is_cell g.C.PartialEq.eq (record { itself = g.met.C.Eq.laws.refl; exact = g.met.C.Cell.exact }) g.met.C.Cell.begins_one c.args.bytes.now c.args.rows c.loop-at.at (g.L.Column.cells c.loop-at.cells) (g.L.Column.cells c.read_run.new.cells) others c.in-Some.position c.in-Some.length c.in-Some.end c.loop-at.count c.requires c.loop-at.invariant.has_read c.loop-at-test.true h found c.loop-at.invariant.count_is)

pub loop-at-preserved : goal.loop-at-preserved
loop-at-preserved g c =
    let found = (rw c.in-Some.is at c.in_ok-position.ensures.found) in
    let cells = g.L.Column.cells c.loop-at.cells in
    let whole = grown_by cells (g.L.Column.cells c.read_run.new.cells) (g.L.Column.cells c.repeat_at.new.cells) found.value c.loop-at.count c.in-Some.length found.added c.loop-at.invariant.count_is (omega arith) c.in_ok-repeat_at.ensures in
    record {
      has_read = has_read_more g.C.Cell.bytes g.C.Cell.is_cell g.C.PartialEq.eq (record { itself = g.met.C.Eq.laws.refl; exact = g.met.C.Cell.exact }) c.args.bytes.now c.args.rows c.loop-at.at cells (g.L.Column.cells c.read_run.new.cells) (g.L.Column.cells c.repeat_at.new.cells) c.in-Some.position c.in-Some.length c.in-Some.end c.loop-at.count c.loop-at.invariant.has_read found c.loop-at.invariant.count_is (omega arith) (omega arith) (omega arith) (c.differs.ensures.yes c.if-not-differs.false) c.in_ok-repeat_at.ensures;
      count_is = omega (arith, ap length whole, length-append cells (replicate c.in-Some.length found.value), length-replicate c.in-Some.length found.value);
    }

pub returns-then-count-rows-clause-not_a_text : goal.returns-then-count-rows-clause-not_a_text
returns-then-count-rows-clause-not_a_text g c = λ _ others h.
    let size = ended_here g.C.Cell.bytes g.C.Cell.is_cell g.C.PartialEq.eq (record { itself = g.met.C.Eq.laws.refl; exact = g.met.C.Cell.exact }) g.met.C.Cell.begins_one c.args.bytes.now c.args.rows c.loop-at.at (g.L.Column.cells c.loop-at.cells) others c.requires c.loop-at.invariant.has_read c.loop-at-test.false h in
    absurd (omega (arith, size))

pub returns-clause-found : goal.returns-clause-found
returns-clause-found g c =
    all_read g.C.Cell.bytes g.C.Cell.is_cell g.C.PartialEq.eq (record { itself = g.met.C.Eq.laws.refl; exact = g.met.C.Cell.exact }) c.args.bytes.now c.args.rows c.loop-at.at (g.L.Column.cells c.loop-at.cells) c.requires c.loop-at.invariant.has_read c.loop-at-test.false (omega arith)
