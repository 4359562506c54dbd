use Rattle.std.proofs.Common.{◌<◌, ◌-◌, ◌++◌, ◌≢◌, ℕ, List, arith, ap, sym, ◌∙◌, drop, length, take, get_or-set_other}
use Rattle.std.proofs.Math.ListN.{length-set}
use Rattle.std.specs.List.{position_or_len}
use Rattle.cs_schema.specs.Values.{values, kind_of}
use Rattle.cs_schema.specs.declared.cells.Value.{Value}
use Rattle.cs_rows.specs.Survivors.{contents_of}
use Rattle.cs_rows.specs.Superprojections.{own_cells}
use Rattle.cs_rows.specs.RowSteps.{reached_from}
use Rattle.cs_rows.proofs.FoundRows.{added_more}
use Rattle.cs_rows.proofs.Superprojections.{own_column, part_of_column}
use Rattle.cs_rows.proofs.superprojection.copy_rows.Goals as goal

pub column-column-requires : goal.column-column-requires
column-column-requires c =
    let here : c.loop-c.c < length c.args.survivors.now.catalog.columns = omega (arith, c.requires.columns.count, c.loop-c.invariant.count, c.loop-c-test.true, c.loop-c.auto.c-end, c.len-c-end.ensures) in
    (own_column c.args.survivors.now.catalog c.args.survivors.now c.args.segment.0 c.requires.all c.loop-c.c here c.place_in.result c.args.segment.1 c.in-Some.image.now
    (c.place_in.ensures ∙ ap (position_or_len _) c.columns_of-own.ensures) c.in-Some.ensures.image c.in-Some.ensures.kinds).0

pub extend-requires-clause-kinds : goal.extend-requires-clause-kinds
extend-requires-clause-kinds c =
    let here : c.loop-c.c < length c.args.survivors.now.catalog.columns = omega (arith, c.requires.columns.count, c.loop-c.invariant.count, c.loop-c-test.true, c.loop-c.auto.c-end, c.len-c-end.ensures) in
    let there = own_column c.args.survivors.now.catalog c.args.survivors.now c.args.segment.0 c.requires.all c.loop-c.c here c.place_in.result c.args.segment.1 c.in-Some.image.now
    (c.place_in.ensures ∙ ap (position_or_len _) c.columns_of-own.ensures) c.in-Some.ensures.image c.in-Some.ensures.kinds in
    ap kind_of (c.index_mut.ensures.value ∙ c.loop-c.invariant.later c.loop-c.c c.index_mut.result.now (omega arith)) ∙ c.requires.columns.kinds c.loop-c.c c.index_mut.result.now here ∙ sym (c.column-column.ensures.kind ∙ there.1)

pub loop-c-preserved : goal.loop-c-preserved
loop-c-preserved c =
    let C = c.args.survivors.now.catalog in
    let S = contents_of c.args.survivors.now in
    let p : ℕ = c.args.segment.0 in
    let s : ℕ = c.args.segment.1 in
    let n : ℕ = c.args.rows.1 - c.args.rows.0 in
    let here : c.loop-c.c < length C.columns = omega (arith, c.requires.columns.count, c.loop-c.invariant.count, c.loop-c-test.true, c.loop-c.auto.c-end, c.len-c-end.ensures) in
    let there = own_column C c.args.survivors.now p c.requires.all c.loop-c.c here c.place_in.result s c.in-Some.image.now
    (c.place_in.ensures ∙ ap (position_or_len _) c.columns_of-own.ensures) c.in-Some.ensures.image c.in-Some.ensures.kinds in
    let part = ap (λ (l : List Value). take n (drop c.args.rows.0 l)) (c.column-column.ensures.values ∙ there.2) ∙ part_of_column C S p s c.args.rows.0 c.args.rows.1 c.loop-c.c c.requires.order c.requires.within in
    record {
      count = length-set c.loop-c.columns.items c.loop-c.c c.extend.new.self ∙ c.loop-c.invariant.count;
      added = added_more (own_cells C S (reached_from p s c.args.rows.0 n)) c.args.columns.now.items c.loop-c.columns.items c.loop-c.c c.index_mut.result.now c.extend.new.self (omega (arith, c.loop-c.invariant.count, c.loop-c-test.true, c.loop-c.auto.c-end, c.len-c-end.ensures)) c.loop-c.invariant.added c.loop-c.invariant.later c.index_mut.ensures.value
          c.in_ok-extend-in-Some.ensures.kind
          (c.in_ok-extend-in-Some.ensures.values ∙ ap (λ (l : List Value). values c.index_mut.result.now ++ l) part);
      later = λ k d h. let ne : k ≢ c.loop-c.c = omega arith in get_or-set_other c.loop-c.columns.items c.loop-c.c k c.extend.new.self d ne ∙ c.loop-c.invariant.later k d (omega arith);
    }
