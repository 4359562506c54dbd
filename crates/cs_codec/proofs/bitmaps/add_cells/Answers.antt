use Rattle.std.proofs.Common.{arith, ◌++◌, ◌∷◌, [], ◌∙◌, ◌≡◌, ◌-◌, ap, sym, subst, take, drop, length, append_assoc, List, ℕ}
use Rattle.std.proofs.lemmas.List.{length-append, append-nil}
use Rattle.cs_codec.specs.Bitmaps.{total}
use Rattle.cs_codec.specs.BitmapParts.{AreBitmaps}
use Rattle.cs_codec.proofs.BitmapCuts.{total_within}
use Rattle.cs_codec.proofs.BitmapSteps.{Each, before_is, one_more_cell, length-bitmap}
use Rattle.cs_codec.proofs.ColumnRanges.{range_more, range_size, range_none}
use Rattle.cs_codec.proofs.bitmaps.add_cells.Goals as goal

pub loop-at-init : goal.loop-at-init
loop-at-init g c = record {
  are = λ front n are. subst (λ z. AreBitmaps g.C.PartialEq.eq g.C.Ord.cmp c.args.bitmaps.now z) (sym (ap (λ z. front ++ z) (range_none (g.L.Column.cells c.args.column.now) c.args.from) ∙ append-nil front)) are;
  position_is = omega arith;
}

pub add_one-requires-clause-below : goal.add_one-requires-clause-below
add_one-requires-clause-below g c =
    let front = c.requires.room.front in
    let done = take (c.loop-at.at - c.args.from) (drop c.args.from (g.L.Column.cells c.args.column.now)) in
    let now = c.loop-at.invariant.are front c.requires.room.before_is c.requires.room.are in
    let old = before_is g.C.PartialEq.eq g.C.Ord.cmp c.loop-at.bitmaps (front ++ done) c.cell.result now.each in
    let place = c.loop-at.invariant.position_is in
    let size = range_size (g.L.Column.cells c.args.column.now) c.args.from c.loop-at.at (omega arith) in
    omega (arith, ap total old, total_within g.C.PartialEq.eq c.cell.result (front ++ done), length-append front done, size, place, c.requires.room.before_is)

pub add_one-requires-clause-few : goal.add_one-requires-clause-few
add_one-requires-clause-few g c =
    let front = c.requires.room.front in
    let done = take (c.loop-at.at - c.args.from) (drop c.args.from (g.L.Column.cells c.args.column.now)) in
    let now = c.loop-at.invariant.are front c.requires.room.before_is c.requires.room.are in
    let old = before_is g.C.PartialEq.eq g.C.Ord.cmp c.loop-at.bitmaps (front ++ done) c.cell.result now.each in
    let size = range_size (g.L.Column.cells c.args.column.now) c.args.from c.loop-at.at (omega arith) in
    omega (arith, ap (λ (z : List ℕ). length z) old, length-bitmap g.C.PartialEq.eq c.cell.result (front ++ done), length-append front done, size, c.requires.room.short)

pub loop-at-preserved : goal.loop-at-preserved
loop-at-preserved g c =
    let done = take (c.loop-at.at - c.args.from) (drop c.args.from (g.L.Column.cells c.args.column.now)) in
    let place = c.loop-at.invariant.position_is in
    let size = range_size (g.L.Column.cells c.args.column.now) c.args.from c.loop-at.at (omega arith) in
    record {
      are = λ front n are.
          let now = c.loop-at.invariant.are front n are in
          let more : Each g.C.PartialEq.eq g.C.Ord.cmp c.add_one.new.bitmaps ((front ++ done) ++ c.cell.result ∷ []) = one_more_cell g.C.PartialEq.eq (record { itself = g.met.C.Eq.laws.refl; exact = g.met.C.Cell.exact }) g.C.Ord.cmp g.met.C.Ord.matches_eq g.met.C.Eq.laws.symm (front ++ done) c.cell.result c.loop-at.bitmaps c.add_one.new.bitmaps c.loop-at.position now.each (omega (arith, length-append front done, size, place, n)) c.in_ok-add_one.ensures.added in
          record {
            each = subst (λ z. Each g.C.PartialEq.eq g.C.Ord.cmp c.add_one.new.bitmaps z) (append_assoc front done (c.cell.result ∷ []) ∙ ap (λ z. front ++ z) (sym (range_more (g.L.Column.cells c.args.column.now) c.args.from c.loop-at.at c.cell.result (omega arith) c.cell.ensures))) more;
            ordered = c.in_ok-add_one.ensures.ordered;
          };
      position_is = omega (arith, place);
    }

pub returns : goal.returns
returns g c = λ front n are.
    let ends : c.loop-at.at ≡ c.args.to = omega arith in
    subst (λ (k : ℕ). AreBitmaps g.C.PartialEq.eq g.C.Ord.cmp c.loop-at.bitmaps (front ++ take (k - c.args.from) (drop c.args.from (g.L.Column.cells c.args.column.now)))) ends (c.loop-at.invariant.are front n are)
