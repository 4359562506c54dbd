use Rattle.std.proofs.Common.{arith, rules, ◌∙◌, sym, ap, subst, List, ℕ, length, get_or, [], ◌∷◌, ◌++◌, false, ◌<◌, ◌+◌}
use Rattle.std.proofs.lemmas.List.{length-replicate, length-append}
use Rattle.std.specs.List.{AllByRecursion}
use Rattle.cs_codec.specs.Bitmaps.{total, bits_from}
use Rattle.cs_codec.specs.Encodings.{IsColumn, IsShort}
use Rattle.cs_codec.specs.Texts.{distinct_values, bitmaps_text}
use Rattle.cs_codec.specs.BitmapReading.{AddsEntry, AddsValue}
use Rattle.cs_codec.specs.Painting.{Painted}
use Rattle.cs_codec.proofs.BitmapCuts.{total_within}
use Rattle.cs_codec.proofs.EntryReading.{entries_begin, no_more, no_entry, one_more_entry, all_done, some_value}
use Rattle.cs_codec.proofs.EntryPainting.{Numbered, AreBelow, numbered_begins, numbered_more, zeros_below, below_more, cells_are, all_append}
use Rattle.cs_codec.proofs.bitmap_reading.candidate.Goals as goal

pub loop-at-init : goal.loop-at-init
loop-at-init g c =
    let none = c.new-values.ensures in
    record {
      far = entries_begin g.C.Cell.bytes g.C.Cell.is_cell g.C.PartialEq.eq g.C.Ord.cmp c.args.bytes.now c.args.rows (Numbered (g.L.Column.cells c.new-values.result) c.in_ok-numbers.numbers.items) (λ xs. numbered_begins (g.L.Column.cells c.new-values.result) c.in_ok-numbers.numbers.items xs none);
      count_is = sym (ap length none);
      few = omega arith;
      below = subst (λ (ns : List ℕ). AreBelow ns 0) (sym c.in_ok-numbers.ensures) (zeros_below c.args.rows);
      size = ap (λ (ns : List ℕ). length ns) c.in_ok-numbers.ensures ∙ length-replicate c.args.rows 0;
      hold = subst (λ z. AllByRecursion g.C.Cell.is_cell z) (sym none) tt;
      within = omega arith;
    }

pub returns-then-count-rows-clause-none : goal.returns-then-count-rows-clause-none
returns-then-count-rows-clause-none g c =
    let count = c.loop-at.invariant.count_is in
    let full = c.if-count-rows.true in
    no_more g.C.Cell.bytes g.C.Cell.is_cell g.C.PartialEq.eq g.C.Ord.cmp c.args.bytes.now c.args.rows c.loop-at.at (Numbered (g.L.Column.cells c.loop-at.values) c.loop-at.numbers.items) c.loop-at.invariant.far c.loop-at-test.true
    (λ xs done known. omega (arith, ap length known.values_are, count, full))

pub returns-in_default-clause-none : goal.returns-in_default-clause-none
returns-in_default-clause-none g c =
    no_entry g.C.Cell.bytes g.C.Cell.is_cell g.C.PartialEq.eq g.C.Ord.cmp c.args.bytes.now c.args.rows c.loop-at.at (Numbered (g.L.Column.cells c.loop-at.values) c.loop-at.numbers.items) c.loop-at.invariant.far c.add_entry.new.lengths.items c.loop-at-test.true
    (subst (λ o. AddsEntry g.C.Cell.bytes g.C.Cell.is_cell c.args.bytes.now c.loop-at.at (g.L.Column.cells c.loop-at.values) (g.L.Column.cells c.add_entry.new.values) c.add_entry.new.lengths.items o) c.in_default.is c.in_ok-next.ensures)

pub returns-then-not-paint-clause-none : goal.returns-then-not-paint-clause-none
returns-then-not-paint-clause-none g c = λ xs h.
    let size = c.loop-at.invariant.size in
    let long = c.if-not-paint.ensures.too_long (search rules) in
    let same = ap total c.deref.ensures.value in
    let adds : AddsValue g.C.Cell.bytes g.C.Cell.is_cell c.args.bytes.now c.loop-at.at (g.L.Column.cells c.loop-at.values) (g.L.Column.cells c.add_entry.new.values) c.add_entry.new.lengths.items c.in-Some.next = subst (λ o. AddsEntry g.C.Cell.bytes g.C.Cell.is_cell c.args.bytes.now c.loop-at.at (g.L.Column.cells c.loop-at.values) (g.L.Column.cells c.add_entry.new.values) c.add_entry.new.lengths.items o) c.in-Some.is c.in_ok-next.ensures in
    let next = one_more_entry g.C.Cell.bytes g.C.Cell.is_cell g.C.PartialEq.eq g.C.Ord.cmp c.args.bytes.now c.args.rows c.loop-at.at (Numbered (g.L.Column.cells c.loop-at.values) c.loop-at.numbers.items) c.loop-at.invariant.far c.add_entry.new.lengths.items (adds.value, c.in-Some.next) (λ done ys. total c.add_entry.new.lengths.items < length ys + 1) c.loop-at-test.true adds.reads
    (λ ys done x k value lengths known. omega (arith, ap total lengths, total_within g.C.PartialEq.eq x ys)) in
    omega (arith, (next xs h).known, h.rows_are, size, long, same)

pub loop-at-preserved : goal.loop-at-preserved
loop-at-preserved g c =
    let count = c.loop-at.invariant.count_is in
    let few = c.loop-at.invariant.few in
    let size = c.loop-at.invariant.size in
    let adds : AddsValue g.C.Cell.bytes g.C.Cell.is_cell c.args.bytes.now c.loop-at.at (g.L.Column.cells c.loop-at.values) (g.L.Column.cells c.add_entry.new.values) c.add_entry.new.lengths.items c.in-Some.next = subst (λ o. AddsEntry g.C.Cell.bytes g.C.Cell.is_cell c.args.bytes.now c.loop-at.at (g.L.Column.cells c.loop-at.values) (g.L.Column.cells c.add_entry.new.values) c.add_entry.new.lengths.items o) c.in-Some.is c.in_ok-next.ensures in
    let painted : Painted c.loop-at.count (bits_from false c.add_entry.new.lengths.items) c.loop-at.numbers.items c.paint.new.numbers.items = subst (λ (ns : List ℕ). Painted c.loop-at.count (bits_from false ns) c.loop-at.numbers.items c.paint.new.numbers.items) c.deref.ensures.value (c.if-not-paint.ensures.painted (search rules)) in
    record {
      far = one_more_entry g.C.Cell.bytes g.C.Cell.is_cell g.C.PartialEq.eq g.C.Ord.cmp c.args.bytes.now c.args.rows c.loop-at.at (Numbered (g.L.Column.cells c.loop-at.values) c.loop-at.numbers.items) c.loop-at.invariant.far c.add_entry.new.lengths.items (adds.value, c.in-Some.next) (Numbered (g.L.Column.cells c.add_entry.new.values) c.paint.new.numbers.items) c.loop-at-test.true adds.reads
          (λ xs done x h value lengths known. subst (λ z. Numbered z c.paint.new.numbers.items (done ++ x ∷ []) xs) (sym adds.added) (numbered_more g.C.PartialEq.eq (record { itself = g.met.C.Eq.laws.refl; exact = g.met.C.Cell.exact }) (g.L.Column.cells c.loop-at.values) adds.value c.loop-at.count c.add_entry.new.lengths.items c.loop-at.numbers.items c.paint.new.numbers.items painted count c.loop-at.invariant.below xs done x (h.rows_are ∙ sym size) value lengths known));
      count_is = omega (arith, count, ap length adds.added, length-append (g.L.Column.cells c.loop-at.values) (adds.value ∷ []));
      few = let more = c.if-count-rows.false in omega (arith, few, more);
      below = below_more c.loop-at.count (bits_from false c.add_entry.new.lengths.items) c.loop-at.numbers.items c.paint.new.numbers.items painted c.loop-at.invariant.below;
      size = painted.size ∙ size;
      hold = subst (λ z. AllByRecursion g.C.Cell.is_cell z) (sym adds.added) (all_append g.C.Cell.is_cell (g.L.Column.cells c.loop-at.values) (adds.value ∷ []) c.loop-at.invariant.hold (adds.reads.2, tt));
      within = adds.reads.1;
    }

pub returns-then-rows-gt0-clause-none : goal.returns-then-rows-gt0-clause-none
returns-then-rows-gt0-clause-none g c = λ xs h.
    let count = c.loop-at.invariant.count_is in
    let none = c.if-count-eq0.true in
    let some = c.if-rows-gt0.true in
    let known = all_done g.C.Cell.bytes g.C.Cell.is_cell g.C.PartialEq.eq g.C.Ord.cmp c.args.bytes.now c.args.rows c.loop-at.at (Numbered (g.L.Column.cells c.loop-at.values) c.loop-at.numbers.items) c.loop-at.invariant.far (omega arith) xs h in
    omega (arith, count, none, ap length known.values_are, some_value g.C.PartialEq.eq (record { itself = g.met.C.Eq.laws.refl; exact = g.met.C.Cell.exact }) g.C.Ord.cmp g.met.C.Ord.matches_eq xs (omega (arith, some, h.rows_are)))

pub returns-clause-found : goal.returns-clause-found
returns-clause-found g c =
    let count = c.loop-at.invariant.count_is in
    let size = c.loop-at.invariant.size in
    let values = g.L.Column.cells c.loop-at.values in
    let numbers = c.loop-at.numbers.items in
    let below : (k : ℕ) → k < length numbers → get_or numbers k 0 < length values = λ k lt. (let at_most = c.loop-at.invariant.below k lt in search rules) in
    let known : (xs : List g.row.C.Denot) → IsColumn (bitmaps_text g.C.Cell.bytes g.C.PartialEq.eq g.C.Ord.cmp) IsShort g.C.Cell.is_cell c.args.bytes.now c.args.rows xs → Numbered values numbers (distinct_values g.C.Ord.cmp xs) xs =
    all_done g.C.Cell.bytes g.C.Cell.is_cell g.C.PartialEq.eq g.C.Ord.cmp c.args.bytes.now c.args.rows c.loop-at.at (Numbered values numbers) c.loop-at.invariant.far (omega arith) in
    record {
      rows_are = size;
      below = below;
      hold = c.loop-at.invariant.hold;
      values_are = λ xs h. (known xs h).values_are;
      only = λ xs h. cells_are g.C.PartialEq.eq (record { itself = g.met.C.Eq.laws.refl; exact = g.met.C.Cell.exact }) g.C.Ord.cmp g.met.C.Ord.matches_eq values numbers xs (size ∙ sym h.rows_are) below (known xs h);
    }
