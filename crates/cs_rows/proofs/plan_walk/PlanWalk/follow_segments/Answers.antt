use Rattle.std.proofs.Common.{◌≡◌, ◌+◌, ◌-◌, ◌++◌, arith, sym, ap, ◌∙◌, subst, List, ℕ, length, min}
use Rattle.std.specs.List.{find}
use Rattle.cs_rows.specs.Walk.{At, is_astray}
use Rattle.cs_schema.specs.CatalogData.{segments}
use Rattle.cs_rows.specs.Survivors.{contents_of}
use Rattle.cs_rows.specs.Columns.{rows_from, IsRowFault}
use Rattle.cs_rows.specs.PlanWalks.{AreFollowed}
use Rattle.cs_rows.proofs.RangeLemmas.{part, here, part_more, first_more, fault_of_part, found_none, extended_twice}
use Rattle.cs_rows.proofs.plan_walk.PlanWalk.follow_segments.Goals as goal

pub loop-s-preserved : goal.loop-s-preserved
loop-s-preserved c =
    let C = c.args.self.now.survivors.now.catalog in
    let S = contents_of c.args.self.now.survivors.now in
    let P = c.args.self.now.plan.now in
    let s = c.loop-s.s in
    let first = c.loop-s.first in
    let n : c.row_count-count.result ≡ length (S.image P.anchor s).pairs = c.row_count-count.ensures ∙ ap (λ (q : ℕ). length (S.image q s).pairs) c.anchor-anchor.ensures in
    let starts : c.min-start.result ≡ min (c.args.from - first) (length (S.image P.anchor s).pairs) = c.min-start.ensures ∙ (λ i. min (c.saturating_sub.ensures i) (n i)) in
    let ends : c.min-end.result ≡ min (c.args.to - first) (length (S.image P.anchor s).pairs) = c.min-end.ensures ∙ (λ i. min (c.saturating_sub-in-loop-s.ensures i) (n i)) in
    let rows : rows_from s c.min-start.result (c.min-end.result - c.min-start.result) ≡ here S P.anchor c.args.from c.args.to first s = λ i. rows_from s (starts i) (ends i - starts i) in
    let more = part_more S P.anchor c.args.from c.args.to first s c.loop-s.invariant.first ∙ ap (λ (l : List At). part S P.anchor c.args.from c.args.to s ++ l) (sym rows) in
    record {
      small = omega arith;
      count = c.in-Ok.ensures.ids ∙ c.loop-s.invariant.count;
      first = ap (λ (k : ℕ). first + k) n ∙ first_more S P.anchor first s c.loop-s.invariant.first;
      sound = ap (find (is_astray C S P)) more ∙ found_none C S P (part S P.anchor c.args.from c.args.to s) (rows_from s c.min-start.result (c.min-end.result - c.min-start.result)) c.loop-s.invariant.sound c.in-Ok.ensures.sound;
      followed = extended_twice (λ (ats : List At) (ids : List (List At)). AreFollowed c.args.self.now ats ids) (part S P.anchor c.args.from c.args.to s) (rows_from s c.min-start.result (c.min-end.result - c.min-start.result)) (part S P.anchor c.args.from c.args.to (s + 1)) c.args.ids.now.items c.loop-s.ids.items c.follow_segment.new.ids.items more c.loop-s.invariant.followed c.in-Ok.ensures.followed;
    }

pub returns-in-Err-clause-fault : goal.returns-in-Err-clause-fault
returns-in-Err-clause-fault c =
    let C = c.args.self.now.survivors.now.catalog in
    let S = contents_of c.args.self.now.survivors.now in
    let P = c.args.self.now.plan.now in
    let s = c.loop-s.s in
    let first = c.loop-s.first in
    let n : c.row_count-count.result ≡ length (S.image P.anchor s).pairs = c.row_count-count.ensures ∙ ap (λ (q : ℕ). length (S.image q s).pairs) c.anchor-anchor.ensures in
    let starts : c.min-start.result ≡ min (c.args.from - first) (length (S.image P.anchor s).pairs) = c.min-start.ensures ∙ (λ i. min (c.saturating_sub.ensures i) (n i)) in
    let ends : c.min-end.result ≡ min (c.args.to - first) (length (S.image P.anchor s).pairs) = c.min-end.ensures ∙ (λ i. min (c.saturating_sub-in-loop-s.ensures i) (n i)) in
    let rows : rows_from s c.min-start.result (c.min-end.result - c.min-start.result) ≡ here S P.anchor c.args.from c.args.to first s = λ i. rows_from s (starts i) (ends i - starts i) in
    let all = c.segments-s-end.ensures.count ∙ ap (segments C) c.anchor-anchor.ensures in
    fault_of_part C S P c.args.from c.args.to first s (segments C P.anchor) c.in-Err.fault (omega arith) c.loop-s.invariant.first c.loop-s.invariant.sound
    (subst (λ (l : List At). IsRowFault C S P l c.in-Err.fault) rows c.in-Err.ensures.fault)

pub returns-clause-followed : goal.returns-clause-followed
returns-clause-followed c =
    let C = c.args.self.now.survivors.now.catalog in
    let S = contents_of c.args.self.now.survivors.now in
    let P = c.args.self.now.plan.now in
    let all : c.loop-s.s ≡ segments C P.anchor = omega (arith, c.loop-s-test.false, c.loop-s.auto.s-end, c.segments-s-end.ensures.count ∙ ap (segments C) c.anchor-anchor.ensures) in
    subst (λ (n : ℕ). (ats : List At) → AreFollowed c.args.self.now ats c.args.ids.now.items → AreFollowed c.args.self.now (ats ++ part S P.anchor c.args.from c.args.to n) c.loop-s.ids.items) all c.loop-s.invariant.followed
