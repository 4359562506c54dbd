use Rattle.std.proofs.Common.{arith, eq-eqb, ◌≡◌, ◌+◌, ◌∙◌, ap, subst, ℕ, List, false, true}
use Rattle.std.specs.Prelude.{nat_eq}
use Rattle.cs_codec.specs.Bitmaps.{ones_of}
use Rattle.cs_codec.specs.BitmapReading.{ReadsEntry}
use Rattle.cs_codec.proofs.BitmapCounts.{Counted, counted_more, counted_all, counted_within}
use Rattle.cs_codec.proofs.EntryReading.{entries_begin, no_entry, one_more_entry, all_done}
use Rattle.cs_codec.proofs.bitmap_reading.names_all_rows.Goals as goal

pub loop-at-init : goal.loop-at-init
loop-at-init g c = record {
  far = entries_begin g.C.Cell.bytes g.C.Cell.is_cell g.C.PartialEq.eq g.C.Ord.cmp c.args.bytes.now c.args.rows (Counted g.C.PartialEq.eq 0) (λ xs. omega arith);
  few = omega arith;
  within = omega arith;
}

pub returns-in_default : goal.returns-in_default
returns-in_default g c = λ _.
    no_entry g.C.Cell.bytes g.C.Cell.is_cell g.C.PartialEq.eq g.C.Ord.cmp c.args.bytes.now c.args.rows c.loop-at.at (Counted g.C.PartialEq.eq c.loop-at.named) c.loop-at.invariant.far c.read_entry.new.lengths.items c.loop-at-test.true
    (subst (λ o. ReadsEntry g.C.Cell.bytes g.C.Cell.is_cell c.args.bytes.now c.loop-at.at c.read_entry.new.lengths.items o) c.in_default.is c.in_ok-entry.ensures)

pub returns-in_default-count_ones : goal.returns-in_default-count_ones
returns-in_default-count_ones g c = λ _ xs h.
    let reads = subst (λ o. ReadsEntry g.C.Cell.bytes g.C.Cell.is_cell c.args.bytes.now c.loop-at.at c.read_entry.new.lengths.items o) c.in-Some.is c.in_ok-entry.ensures in
    let numbers = c.read_entry.new.lengths.items in
    let more = c.in_default-count_ones.ensures.none in
    let same = ap (λ (z : List ℕ). ones_of false z) c.deref.ensures.value in
    let few = c.loop-at.invariant.few in
    let next = one_more_entry g.C.Cell.bytes g.C.Cell.is_cell g.C.PartialEq.eq g.C.Ord.cmp c.args.bytes.now c.args.rows c.loop-at.at (Counted g.C.PartialEq.eq c.loop-at.named) c.loop-at.invariant.far numbers (c.in-Some.field-0-0, c.in-Some.next) (Counted g.C.PartialEq.eq (c.loop-at.named + ones_of false numbers)) c.loop-at-test.true reads
    (λ ys done x k value lengths known. counted_more g.C.PartialEq.eq c.loop-at.named (ones_of false numbers) numbers (λ i. ones_of false numbers) ys done x lengths known) in
    let entry = next xs h in
    omega (arith, counted_within g.C.PartialEq.eq (record { itself = g.met.C.Eq.laws.refl; exact = g.met.C.Cell.exact }) g.C.Ord.cmp g.met.C.Ord.total g.met.C.Ord.matches_eq (c.loop-at.named + ones_of false numbers) xs entry.done entry.rest entry.all entry.known, h.rows_are, more, same, few)

pub overflow_add-named : goal.overflow_add-named
overflow_add-named g c =
    let few = c.loop-at.invariant.few in
    let within = c.in-Some-count_ones.ensures.within in
    omega (arith, few, within)

pub loop-at-preserved-in-Some-count_ones : goal.loop-at-preserved-in-Some-count_ones
loop-at-preserved-in-Some-count_ones g c =
    let reads = subst (λ o. ReadsEntry g.C.Cell.bytes g.C.Cell.is_cell c.args.bytes.now c.loop-at.at c.read_entry.new.lengths.items o) c.in-Some.is c.in_ok-entry.ensures in
    let numbers = c.read_entry.new.lengths.items in
    let few = c.loop-at.invariant.few in
    let within = c.in-Some-count_ones.ensures.within in
    let ones : c.in-Some-count_ones.ones ≡ ones_of false numbers = c.in-Some-count_ones.ensures.found ∙ ap (λ (z : List ℕ). ones_of false z) c.deref.ensures.value in
    record {
      far = one_more_entry g.C.Cell.bytes g.C.Cell.is_cell g.C.PartialEq.eq g.C.Ord.cmp c.args.bytes.now c.args.rows c.loop-at.at (Counted g.C.PartialEq.eq c.loop-at.named) c.loop-at.invariant.far numbers (c.in-Some.field-0-0, c.in-Some.next) (Counted g.C.PartialEq.eq (c.loop-at.named + c.in-Some-count_ones.ones)) c.loop-at-test.true reads
          (λ ys done x k value lengths known. counted_more g.C.PartialEq.eq c.loop-at.named c.in-Some-count_ones.ones numbers ones ys done x lengths known);
      few = omega (arith, few, within);
      within = reads.1;
    }

pub returns : goal.returns
returns g c = λ said xs h.
    let all = counted_all g.C.PartialEq.eq (record { itself = g.met.C.Eq.laws.refl; exact = g.met.C.Cell.exact }) g.C.Ord.cmp g.met.C.Ord.total g.met.C.Ord.matches_eq c.loop-at.named xs
    (all_done g.C.Cell.bytes g.C.Cell.is_cell g.C.PartialEq.eq g.C.Ord.cmp c.args.bytes.now c.args.rows c.loop-at.at (Counted g.C.PartialEq.eq c.loop-at.named) c.loop-at.invariant.far (omega arith) xs h) in
    differ c.loop-at.named c.args.rows said (all ∙ h.rows_are)
  where
    differ : (m n : ℕ) → nat_eq m n ≡ false → m ≡ n → ⊥
    differ m n e same = let t : nat_eq m n ≡ true = eq-eqb m n same in absurd cc
