use Rattle.std.proofs.Common.{◌≡◌, ℕ, ◌<◌, ◌≤◌, List, length, arith, sym, subst, ◌∙◌}
use Rattle.std.proofs.Math.ListN.{length-set}
use Rattle.cs_schema.specs.CatalogData.{has_join}
use Rattle.cs_safety.specs.Paths.{holds_column}
use Rattle.cs_safety.specs.NumberSets.{is_in}
use Rattle.cs_safety.proofs.Arrays.{set_below}
use Rattle.cs_safety.proofs.graph.graph_of.Goals as goal

pub loop-p-preserved : goal.loop-p-preserved
loop-p-preserved c =
    let below : c.loop-p.p < 8 = let few = c.projection_count-count.ensures.rules.projection_range.1 in let e = c.projection_count-count.ensures.count in let t = c.loop-p-test.true in omega (arith, few, e, t) in
    let small : (xs : List ℕ) → length xs ≡ 8 → c.loop-p.p < length xs = λ xs e. subst (λ n. c.loop-p.p < n) (sym e) below in
    record {
      size = (length-set c.loop-p.joins c.loop-p.p c.targets.result ∙ c.loop-p.invariant.size.0, length-set c.loop-p.columns c.loop-p.p c.held.result ∙ c.loop-p.invariant.size.1);
      joins = set_below (λ p w. (q : ℕ) → is_in w q ≡ has_join c.args.catalog.now p q) c.loop-p.joins c.loop-p.p c.targets.result (small c.loop-p.joins c.loop-p.invariant.size.0) c.loop-p.invariant.joins c.targets.ensures;
      columns = set_below (λ p w. (k : ℕ) → is_in w k ≡ holds_column c.args.catalog.now p k) c.loop-p.columns c.loop-p.p c.held.result (small c.loop-p.columns c.loop-p.invariant.size.1) c.loop-p.invariant.columns c.held.ensures;
    }

pub returns-clause-graph : goal.returns-clause-graph
returns-clause-graph c =
    let l : (p : ℕ) → p < c.projection_count-count.result → p < c.loop-p.p = λ p h. let t = c.loop-p-test.false in omega (arith, t, h) in
    record {
      count = c.projection_count-count.ensures.count;
      width = c.column_count-width.ensures.count;
      few = subst (λ n. n ≤ 8) (sym c.projection_count-count.ensures.count) c.projection_count-count.ensures.rules.projection_range.1;
      narrow = subst (λ n. n ≤ 32) (sym c.column_count-width.ensures.count) c.projection_count-count.ensures.rules.column_range.1;
      joins = λ p h. c.loop-p.invariant.joins p (l p h);
      inside = λ p h q e.
          let here : p < length c.args.catalog.now.projections = subst (λ n. p < n) c.projection_count-count.ensures.count h in
          subst (λ n. q < n) (sym c.projection_count-count.ensures.count) ((c.projection_count-count.ensures.rules.projections p here).joins q (sym (c.loop-p.invariant.joins p (l p h) q) ∙ e)).0;
      columns = λ p h. c.loop-p.invariant.columns p (l p h);
    }
