use Rattle.std.proofs.Common.{◌≡◌, ℕ, ◌+◌, ◌∷◌, ◌++◌, [], List, length, length-append, refl, sym, ap, ◌∙◌, arith}
use Rattle.cs_schema.proofs.Ascending.{false≢true}
use Rattle.cs_diagnosis.specs.Columns.{rows_in}
use Rattle.cs_diagnosis.specs.declared.merging.Dispute.{Dispute}
use Rattle.cs_diagnosis.proofs.MergedSoFar.{begun, alone_first, alone_second, of_both}
use Rattle.cs_diagnosis.proofs.Steps.{low_first, low_second, low_both, on_first, on_second, on_same, on_different, at_end}
use Rattle.cs_diagnosis.proofs.merging.find_disputes.Goals as goal
use Rattle.cs_diagnosis.proofs.merging.find_disputes.Goals.{then-not-same_row+in_ok-keep-in-Equal, else-not-same_row}

one_more : (all : List Dispute) (d : Dispute) (n m : ℕ) → length all ≡ n → m ≡ n + 1 → length (all ++ d ∷ []) ≡ m
one_more all d n m e f = length-append all (d ∷ []) ∙ ap (λ k. k + 1) e ∙ sym f

pub loop-i-init : goal.loop-i-init
loop-i-init c = record {
  within = omega arith;
  others = omega arith;
  found = ([], begun c.args.catalog.now.key (rows_in c.args.first.now) (rows_in c.args.second.now), refl, grind (arith, c.new.ensures.items));
}

pub loop-i-smaller-in-Less : goal.loop-i-smaller-in-Less
loop-i-smaller-in-Less c =
    let low = low_first c.args.catalog.now c.args.first.now c.args.second.now c.requires.first c.requires.second c.loop-i.i c.loop-i.j c.in-Less.ensures in
    let rows = c.row_count-rows.ensures in
    omega (arith, low, rows)

pub loop-i-preserved-in-Less : goal.loop-i-preserved-in-Less
loop-i-preserved-in-Less c =
    let low = low_first c.args.catalog.now c.args.first.now c.args.second.now c.requires.first c.requires.second c.loop-i.i c.loop-i.j c.in-Less.ensures in
    let rows = c.row_count-rows.ensures in
    let old = c.loop-i.invariant.found in
    record {
      within = omega (arith, low, rows);
      others = c.loop-i.invariant.others;
      found = (
        old.0 ++ alone_first c.loop-i.i ∷ [],
        on_first c.args.catalog.now c.args.first.now c.args.second.now c.requires.first c.requires.second c.loop-i.i c.loop-i.j old.0 old.1 c.in-Less.ensures,
        one_more old.0 (alone_first c.loop-i.i) c.loop-i.found.count c.keep.new.found.count old.2 c.in_ok-keep-in-Less.ensures.count,
        c.in_ok-keep-in-Less.ensures.rows old.0 old.2 old.3,
      );
    }

pub loop-i-smaller-in-Greater : goal.loop-i-smaller-in-Greater
loop-i-smaller-in-Greater c =
    let low = low_second c.args.catalog.now c.args.first.now c.args.second.now c.requires.first c.requires.second c.loop-i.i c.loop-i.j c.in-Greater.ensures in
    let rows = c.row_count-others.ensures in
    omega (arith, low, rows)

pub loop-i-preserved-in-Greater : goal.loop-i-preserved-in-Greater
loop-i-preserved-in-Greater c =
    let low = low_second c.args.catalog.now c.args.first.now c.args.second.now c.requires.first c.requires.second c.loop-i.i c.loop-i.j c.in-Greater.ensures in
    let rows = c.row_count-others.ensures in
    let old = c.loop-i.invariant.found in
    record {
      within = c.loop-i.invariant.within;
      others = omega (arith, low, rows);
      found = (
        old.0 ++ alone_second c.loop-i.j ∷ [],
        on_second c.args.catalog.now c.args.first.now c.args.second.now c.requires.first c.requires.second c.loop-i.i c.loop-i.j old.0 old.1 c.in-Greater.ensures,
        one_more old.0 (alone_second c.loop-i.j) c.loop-i.found.count c.keep-in-Greater.new.found.count old.2 c.in_ok-keep-in-Greater.ensures.count,
        c.in_ok-keep-in-Greater.ensures.rows old.0 old.2 old.3,
      );
    }

pub same_row-requires-clause-here : goal.same_row-requires-clause-here
same_row-requires-clause-here c = (low_both c.args.catalog.now c.args.first.now c.args.second.now c.requires.first c.requires.second c.loop-i.i c.loop-i.j c.in-Equal.ensures).0

pub same_row-requires-clause-there : goal.same_row-requires-clause-there
same_row-requires-clause-there c = (low_both c.args.catalog.now c.args.first.now c.args.second.now c.requires.first c.requires.second c.loop-i.i c.loop-i.j c.in-Equal.ensures).1

pub loop-i-preserved : goal.loop-i-preserved
loop-i-preserved c =
    let C = c.args.catalog.now in
    let a = c.args.first.now in
    let b = c.args.second.now in
    let low = low_both C a b c.requires.first c.requires.second c.loop-i.i c.loop-i.j c.in-Equal.ensures in
    let rows = c.row_count-rows.ensures in
    let others = c.row_count-others.ensures in
    let old = c.loop-i.invariant.found in
    record {
      within = (let l = low.0 in omega (arith, l, rows));
      others = (let l = low.1 in omega (arith, l, others));
      found = elim c.if-not-same_row.branch [
        | then-not-same_row+in_ok-keep-in-Equal w ↦ (
          old.0 ++ of_both c.loop-i.i c.loop-i.j ∷ [],
          on_different C a b c.requires.first c.requires.second c.loop-i.i c.loop-i.j old.0 old.1 c.in-Equal.ensures (λ e. false≢true (sym w.if-not-same_row.true ∙ c.same_row.ensures.1 e)),
          one_more old.0 (of_both c.loop-i.i c.loop-i.j) c.loop-i.found.count c.if-not-same_row.found.count old.2 (ap (λ f. f.count) w.found-is ∙ w.in_ok-keep-in-Equal.ensures.count),
          ap (λ f. f.rows.items) w.found-is ∙ w.in_ok-keep-in-Equal.ensures.rows old.0 old.2 old.3,
        )
        | else-not-same_row w ↦ (
          old.0,
          on_same C a b c.requires.first c.requires.second c.loop-i.i c.loop-i.j old.0 old.1 c.in-Equal.ensures (c.same_row.ensures.0 w.if-not-same_row.false),
          old.2 ∙ sym (ap (λ f. f.count) w.found-is),
          ap (λ f. f.rows.items) w.found-is ∙ old.3,
        )
      ];
    }

pub returns : goal.returns
returns c =
    let old = c.loop-i.invariant.found in
    let rows = c.row_count-rows.ensures in
    let others = c.row_count-others.ensures in (
      old.0,
      at_end c.args.catalog.now c.args.first.now c.args.second.now c.requires.first c.requires.second c.loop-i.i c.loop-i.j old.0 old.1
          (λ h. let f = c.if-i-rows.false in omega (arith, h, f, rows)) (λ h. let f = c.if-j-others.false in omega (arith, h, f, others)),
      sym old.2,
      old.3,
    )
