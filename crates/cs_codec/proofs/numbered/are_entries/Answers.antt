use Rattle.std.proofs.Common.{arith, ◌≡◌, ◌<◌, ◌∙◌, ◌++◌, sym, ap, below_more, List, ℕ, [], length, get_or, drop, suc, Some, None, Bool, false, eq-eqb}
use Rattle.std.specs.Prelude.{flat_map, nat_eq}
use Rattle.std.proofs.lemmas.Bool.{eqb-true}
use Rattle.std.proofs.lemmas.Bool.Decides.{Decides-eqb}
use Rattle.std.proofs.lemmas.List.{get_or_default, nil_from_length}
use Rattle.std.proofs.lemmas.Slice.Eq.{strip_prefix_is}
use Rattle.cs_codec.specs.Texts.{bitmap_text}
use Rattle.cs_codec.specs.Bitmaps.{entry_text}
use Rattle.cs_codec.proofs.NumberedColumns.{entry_more, entry_next, is_whole, none_left}
use Rattle.cs_codec.proofs.numbered.are_entries.Goals as goal

clash : (n : ℕ) (b : Bool) → b ≡ nat_eq n 0 → b ≡ false → n ≡ 0 → ⊥
clash n b e f zero = let same = eq-eqb n 0 zero in absurd cc

written : (out entry cleared old : List ℕ) → out ≡ entry → entry ≡ cleared ++ old → cleared ≡ [] → out ≡ old
written out entry cleared old e f g = e ∙ f ∙ ap (λ (z : List ℕ). z ++ old) g

pub returns-in_default-clause-no : goal.returns-in_default-clause-no
returns-in_default-clause-no g c = λ said ones cells have text.
    let values = g.L.Column.cells c.args.values.now in
    let bitmap = c.index-bitmaps-at.result in
    let same : bitmap ≡ get_or c.args.bitmaps.now c.loop-at.at [] = c.index-bitmaps-at.is ∙ get_or_default c.args.bitmaps.now c.loop-at.at bitmap [] (omega arith) in
    let entry = written c.as_slice.result.now c.write_bitmap.new.out.items c.clear.new.self.items (entry_text g.C.Cell.bytes (c.cell.result, bitmap)) c.as_slice.ensures.value c.in_ok-write_bitmap.ensures c.clear.ensures.items in
    let later = flat_map (bitmap_text g.C.Cell.bytes g.C.PartialEq.eq cells) (drop (suc c.loop-at.at) values) in
    strip_prefix_is Decides-eqb c.loop-at.left.now c.as_slice.result.now None c.in_default.ensures.cases later (
    entry_next g.C.Cell.bytes g.C.PartialEq.eq values cells c.args.bytes.now c.loop-at.left.now c.loop-at.at (c.loop-at.invariant.text cells have) c.cell.result bitmap c.cell.ensures (same ∙ have c.loop-at.at c.cell.result c.cell.ensures) text
    ∙ ap (λ (z : List ℕ). z ++ later) (sym entry))

pub loop-at-preserved : goal.loop-at-preserved
loop-at-preserved g c =
    let values = g.L.Column.cells c.args.values.now in
    let bitmap = c.index-bitmaps-at.result in
    let same : bitmap ≡ get_or c.args.bitmaps.now c.loop-at.at [] = c.index-bitmaps-at.is ∙ get_or_default c.args.bitmaps.now c.loop-at.at bitmap [] (omega arith) in
    let entry = written c.as_slice.result.now c.write_bitmap.new.out.items c.clear.new.self.items (entry_text g.C.Cell.bytes (c.cell.result, bitmap)) c.as_slice.ensures.value c.in_ok-write_bitmap.ensures c.clear.ensures.items in
    record {
      text = λ cells have. entry_more g.C.Cell.bytes g.C.PartialEq.eq values cells c.args.bytes.now c.loop-at.left.now c.loop-at.at (c.loop-at.invariant.text cells have) c.cell.result bitmap c.cell.ensures (same ∙ have c.loop-at.at c.cell.result c.cell.ensures) c.in-Some.rest.now
          (strip_prefix_is Decides-eqb c.loop-at.left.now c.as_slice.result.now (Some c.in-Some.rest) c.in-Some.ensures.cases ∙ ap (λ (z : List ℕ). z ++ c.in-Some.rest.now) entry);
      all = below_more _ _ c.loop-at.invariant.all (λ none.
          let empty = ap (λ (z : List ℕ). length z) (c.bitmap.view_is ∙ same ∙ none) in
          clash c.bitmap.inside.lengths.len c.is_empty.result c.is_empty.ensures c.if-is_empty.false (omega arith));
    }

pub returns-clause-yes : goal.returns-clause-yes
returns-clause-yes g c = λ said.
    let left = c.loop-at.left.now in
    let ones = λ (n : ℕ) (lt : n < length c.args.bitmaps.now). c.loop-at.invariant.all n (omega arith) in
    (ones, λ cells have. is_whole g.C.Cell.bytes g.C.PartialEq.eq (g.L.Column.cells c.args.values.now) cells c.args.bytes.now left c.loop-at.at (c.loop-at.invariant.text cells have) (omega arith) (nil_from_length left (eqb-true (length left) 0 (sym c.is_empty-2.ensures ∙ said))))

pub returns-clause-no : goal.returns-clause-no
returns-clause-no g c = λ said ones cells have text.
    let left = c.loop-at.left.now in
    let none = none_left g.C.Cell.bytes g.C.PartialEq.eq (g.L.Column.cells c.args.values.now) cells c.args.bytes.now left c.loop-at.at (c.loop-at.invariant.text cells have) (omega arith) text in
    clash (length left) c.is_empty-2.result c.is_empty-2.ensures said (ap (λ (z : List ℕ). length z) none)
