use Rattle.std.proofs.Common.{◌≡◌, ◌+◌, ◌-◌, ◌++◌, ℕ, List, min, arith, ap, sym, subst, ◌∙◌}
use Rattle.std.specs.List.{find}
use Rattle.std.proofs.lemmas.List.FromFn.{length-map-range_with_len}
use Rattle.cs_schema.specs.CatalogData.{segments}
use Rattle.cs_rows.specs.Survivors.{contents_of}
use Rattle.cs_rows.specs.WalkByRows.{Reached}
use Rattle.cs_rows.specs.RangeByRows.{is_stray_row}
use Rattle.cs_rows.specs.RowSteps.{reached_from, row_at, kept_count, kept_rows, IsStrayFault}
use Rattle.cs_rows.proofs.PartLemmas.{part, here, run_part, part_more, part_split, first_more}
use Rattle.cs_rows.proofs.FoundRows.{Grows, none_stray, stray_in, grows_more}
use Rattle.cs_rows.proofs.levels.RowWalk.walk_projection.Goals as goal

pub returns-in-Err-clause-fault : goal.returns-in-Err-clause-fault
returns-in-Err-clause-fault c =
    let p : ℕ = c.args.p in
    let s : ℕ = c.loop-s.s in
    let f : ℕ → List Reached = kept_rows c.args.self.now.survivors.now.catalog c.args.self.now.loss (contents_of c.args.self.now.survivors.now) p in
    let n : ℕ = kept_count c.args.self.now.survivors.now.catalog c.args.self.now.loss (contents_of c.args.self.now.survivors.now) p s in
    let starts : c.min-start.result ≡ min (c.args.range.0 - c.loop-s.first) n = c.min-start.ensures ∙ (λ i. min (c.saturating_sub.ensures i) (c.kept_in_segment-count.ensures i)) in
    let ends : c.min-end.result ≡ min (c.args.range.1 - c.loop-s.first) n = c.min-end.ensures ∙ (λ i. min (c.saturating_sub-in-loop-s.ensures i) (c.kept_in_segment-count.ensures i)) in
    let rows : reached_from p s c.min-start.result (c.min-end.result - c.min-start.result) ≡ here f c.args.range.0 c.args.range.1 c.loop-s.first s =
    (λ i. reached_from p s (starts i) (ends i - starts i)) ∙ sym (run_part (row_at p s) n (c.args.range.0 - c.loop-s.first) (c.args.range.1 - c.loop-s.first)) in
    let within = c.segments-s-end.ensures.count in
    let d = part_split f c.args.range.0 c.args.range.1 c.loop-s.first s (segments c.args.self.now.survivors.now.catalog p) (omega arith) c.loop-s.invariant.count in
    stray_in c.args.self.now.survivors.now.catalog c.args.self.now.loss (contents_of c.args.self.now.survivors.now) (part f c.args.range.0 c.args.range.1 s) (here f c.args.range.0 c.args.range.1 c.loop-s.first s) d.0 (part f c.args.range.0 c.args.range.1 (segments c.args.self.now.survivors.now.catalog p)) c.in-Err.fault d.1 c.loop-s.invariant.sound
    (subst (λ (l : List Reached). IsStrayFault c.args.self.now.survivors.now.catalog c.args.self.now.loss (contents_of c.args.self.now.survivors.now) l c.in-Err.fault) rows c.in-Err.ensures.fault)

pub loop-s-preserved : goal.loop-s-preserved
loop-s-preserved c =
    let p : ℕ = c.args.p in
    let s : ℕ = c.loop-s.s in
    let f : ℕ → List Reached = kept_rows c.args.self.now.survivors.now.catalog c.args.self.now.loss (contents_of c.args.self.now.survivors.now) p in
    let n : ℕ = kept_count c.args.self.now.survivors.now.catalog c.args.self.now.loss (contents_of c.args.self.now.survivors.now) p s in
    let starts : c.min-start.result ≡ min (c.args.range.0 - c.loop-s.first) n = c.min-start.ensures ∙ (λ i. min (c.saturating_sub.ensures i) (c.kept_in_segment-count.ensures i)) in
    let ends : c.min-end.result ≡ min (c.args.range.1 - c.loop-s.first) n = c.min-end.ensures ∙ (λ i. min (c.saturating_sub-in-loop-s.ensures i) (c.kept_in_segment-count.ensures i)) in
    let rows : reached_from p s c.min-start.result (c.min-end.result - c.min-start.result) ≡ here f c.args.range.0 c.args.range.1 c.loop-s.first s =
    (λ i. reached_from p s (starts i) (ends i - starts i)) ∙ sym (run_part (row_at p s) n (c.args.range.0 - c.loop-s.first) (c.args.range.1 - c.loop-s.first)) in
    let more = part_more f c.args.range.0 c.args.range.1 c.loop-s.first s c.loop-s.invariant.count ∙ ap (λ (l : List Reached). part f c.args.range.0 c.args.range.1 s ++ l) (sym rows) in
    record {
      few = omega arith;
      scratch = c.in-Ok.ensures.scratch;
      fit = c.in-Ok.ensures.fit;
      count = ap (λ (k : ℕ). c.loop-s.first + k) (c.kept_in_segment-count.ensures ∙ sym (length-map-range_with_len (row_at p s) 0 n)) ∙ first_more f c.loop-s.first s c.loop-s.invariant.count;
      sound = ap (find (is_stray_row c.args.self.now.survivors.now.catalog c.args.self.now.loss (contents_of c.args.self.now.survivors.now))) more
          ∙ none_stray c.args.self.now.survivors.now.catalog c.args.self.now.loss (contents_of c.args.self.now.survivors.now) (part f c.args.range.0 c.args.range.1 s) (reached_from p s c.min-start.result (c.min-end.result - c.min-start.result)) c.loop-s.invariant.sound c.in-Ok.ensures.sound;
      grown = grows_more c.args.self.now.survivors.now.catalog c.args.self.now.loss (contents_of c.args.self.now.survivors.now) c.args.self.now.fresh_only (part f c.args.range.0 c.args.range.1 s) (reached_from p s c.min-start.result (c.min-end.result - c.min-start.result)) (part f c.args.range.0 c.args.range.1 (s + 1)) c.args.columns.now.items c.loop-s.columns.items c.walk_segment.new.columns.items
          more c.loop-s.invariant.grown c.in-Ok.ensures.cells;
    }

pub returns-clause-cells : goal.returns-clause-cells
returns-clause-cells c =
    let within = c.segments-s-end.ensures.count in
    let e : c.loop-s.s ≡ segments c.args.self.now.survivors.now.catalog c.args.p = omega arith in
    subst (λ (n : ℕ). Grows c.args.self.now.survivors.now.catalog c.args.self.now.loss (contents_of c.args.self.now.survivors.now) c.args.self.now.fresh_only (part (kept_rows c.args.self.now.survivors.now.catalog c.args.self.now.loss (contents_of c.args.self.now.survivors.now) c.args.p) c.args.range.0 c.args.range.1 n) c.args.columns.now.items c.loop-s.columns.items) e c.loop-s.invariant.grown
