use Rattle.std.proofs.Common.{arith, ◌≡◌, ◌<◌, ◌∙◌, ap, refl, [], ℕ, List, length, get_or, take, length-take}
use Rattle.std.specs.Prelude.{nat_eq}
use Rattle.std.proofs.lemmas.List.{length-set, get_or_default}
use Rattle.cs_codec.specs.Bitmaps.{total}
use Rattle.cs_codec.specs.Texts.{bitmap_lengths}
use Rattle.cs_codec.proofs.BitmapCuts.{total_within}
use Rattle.cs_codec.proofs.BitmapSteps.{length-bitmap}
use Rattle.cs_codec.proofs.NumberedColumns.{number_added}
use Rattle.cs_codec.proofs.numbered.bitmaps_of_numbers.Goals as goal

pub add-requires-clause-below : goal.add-requires-clause-below
add-requires-clause-below c =
    let i = c.loop-number.number-index in
    let numbers = c.args.numbers.now in
    let n = get_or numbers i 0 in
    let below : n < c.args.count = c.requires.below i c.loop-number-test.true in
    let count = c.loop-number.invariant.count in
    let place = c.loop-number.invariant.position_is in
    let old : c.index_mut.result.now ≡ bitmap_lengths nat_eq n (take i numbers) = c.index_mut.ensures.value ∙ get_or_default c.loop-number.bitmaps.items n c.index_mut.result.now [] (omega arith) ∙ c.loop-number.invariant.each n below in
    omega (arith, ap total old, total_within nat_eq n (take i numbers), length-take i numbers, place)

pub add-requires-clause-few : goal.add-requires-clause-few
add-requires-clause-few c =
    let i = c.loop-number.number-index in
    let numbers = c.args.numbers.now in
    let n = get_or numbers i 0 in
    let below : n < c.args.count = c.requires.below i c.loop-number-test.true in
    let count = c.loop-number.invariant.count in
    let short = c.requires.short in
    let old : c.index_mut.result.now ≡ bitmap_lengths nat_eq n (take i numbers) = c.index_mut.ensures.value ∙ get_or_default c.loop-number.bitmaps.items n c.index_mut.result.now [] (omega arith) ∙ c.loop-number.invariant.each n below in
    omega (arith, ap (λ (z : List ℕ). length z) old, length-bitmap nat_eq n (take i numbers), length-take i numbers, short, c.loop-number-test.true)

pub loop-number-preserved : goal.loop-number-preserved
loop-number-preserved c =
    let i = c.loop-number.number-index in
    let numbers = c.args.numbers.now in
    let m = get_or numbers i 0 in
    let below : m < c.args.count = c.requires.below i c.loop-number-test.true in
    let count = c.loop-number.invariant.count in
    let place = c.loop-number.invariant.position_is in
    let inside : m < length c.loop-number.bitmaps.items = omega arith in
    let old : c.index_mut.result.now ≡ bitmap_lengths nat_eq m (take i numbers) = c.index_mut.ensures.value ∙ get_or_default c.loop-number.bitmaps.items m c.index_mut.result.now [] inside ∙ c.loop-number.invariant.each m below in
    record {
      count = length-set c.loop-number.bitmaps.items _ _ ∙ count;
      position_is = omega arith;
      each = λ n lt. number_added numbers i m n c.loop-number.position c.loop-number.bitmaps.items c.index_mut.result.now c.add.new.self c.loop-number-test.true refl inside place old c.in_ok-add.ensures (c.loop-number.invariant.each n lt);
    }
