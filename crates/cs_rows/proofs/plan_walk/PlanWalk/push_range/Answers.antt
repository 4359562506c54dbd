use Rattle.std.proofs.Common.{◌≡◌, ◌+◌, ◌-◌, ◌++◌, arith, append_assoc, sym, ap, ◌∙◌, subst, List, ℕ, length, map, min}
use Rattle.cs_schema.specs.declared.cells.Value.{Value}
use Rattle.cs_schema.specs.CatalogData.{segments}
use Rattle.cs_schema.specs.Values.{values}
use Rattle.cs_rows.specs.Columns.{rows_from}
use Rattle.cs_rows.specs.Survivors.{contents_of}
use Rattle.cs_rows.specs.Walk.{At, walked_cell}
use Rattle.cs_rows.proofs.RangeLemmas.{part, here, part_more, first_more, map_append}
use Rattle.cs_rows.proofs.plan_walk.PlanWalk.push_range.Goals as goal

pub loop-s-preserved : goal.loop-s-preserved
loop-s-preserved c =
    let C = c.args.self.now.survivors.now.catalog in
    let S = contents_of c.args.self.now.survivors.now in
    let P = c.args.self.now.plan.now in
    let s = c.loop-s.s in
    let first = c.loop-s.first in
    let n : c.row_count-count.result ≡ length (S.image P.anchor s).pairs = c.row_count-count.ensures ∙ ap (λ (q : ℕ). length (S.image q s).pairs) c.anchor-anchor.ensures in
    let starts : c.min-start.result ≡ min (c.args.range.0 - first) (length (S.image P.anchor s).pairs) = c.min-start.ensures ∙ (λ i. min (c.saturating_sub.ensures i) (n i)) in
    let ends : c.min-end.result ≡ min (c.args.range.1 - first) (length (S.image P.anchor s).pairs) = c.min-end.ensures ∙ (λ i. min (c.saturating_sub-in-loop-s.ensures i) (n i)) in
    let rows : List At = rows_from s c.min-start.result (c.min-end.result - c.min-start.result) in
    let same : rows ≡ here S P.anchor c.args.range.0 c.args.range.1 first s = λ i. rows_from s (starts i) (ends i - starts i) in
    let before : List At = part S P.anchor c.args.range.0 c.args.range.1 s in
    let more = part_more S P.anchor c.args.range.0 c.args.range.1 first s c.loop-s.invariant.first ∙ ap (λ (l : List At). before ++ l) (sym same) in
    let f : At → Value = λ at. walked_cell C S P at c.args.c in
    let old : List Value = values c.args.cells.now in
    record {
      small = omega arith;
      kind = c.in_ok-push_segment.ensures.kind ∙ c.loop-s.invariant.kind;
      first = ap (λ (k : ℕ). first + k) n ∙ first_more S P.anchor first s c.loop-s.invariant.first;
      cells = c.in_ok-push_segment.ensures.ok
          ∙ ap (λ (l : List Value). l ++ map f rows) c.loop-s.invariant.cells
          ∙ append_assoc old (map f before) (map f rows)
          ∙ ap (λ (l : List Value). old ++ l) (sym (ap (map f) more ∙ map_append f before rows));
    }

pub returns-clause-ok : goal.returns-clause-ok
returns-clause-ok c =
    let C = c.args.self.now.survivors.now.catalog in
    let S = contents_of c.args.self.now.survivors.now in
    let P = c.args.self.now.plan.now in
    let all : c.loop-s.s ≡ segments C P.anchor = omega (arith, c.loop-s-test.false, c.loop-s.auto.s-end, c.segments-s-end.ensures.count ∙ ap (segments C) c.anchor-anchor.ensures) in
    subst (λ (n : ℕ). values c.loop-s.cells ≡ values c.args.cells.now ++ map (λ at. walked_cell C S P at c.args.c) (part S P.anchor c.args.range.0 c.args.range.1 n)) all c.loop-s.invariant.cells
