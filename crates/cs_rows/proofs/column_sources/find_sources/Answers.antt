use Rattle.std.proofs.Common.{◌≡◌, ◌≢◌, ◌<◌, ◌≤◌, ℕ, sym, ap, ◌∙◌, subst, ⊎_elim, arith, length, set, get_or, get_or-set_same, get_or-set_other, length-set}
use Rattle.std.proofs.lemmas.Bool.{cases_lt}
use Rattle.cs_rows.specs.RowSteps.{IsSource}
use Rattle.std.specs.List.{find}
use Rattle.std.specs.Option.{is_some}
use Rattle.cs_rows.proofs.FirstLemmas.{all_below, fails_below}
use Rattle.cs_rows.proofs.FoundRows.{holds}
use Rattle.cs_rows.proofs.SourceLemmas.{has_source as has}
use Rattle.cs_rows.proofs.column_sources.find_sources.Goals as goal

pub returns-in-None-clause-full : goal.returns-in-None-clause-full
returns-in-None-clause-full c =
    sym (fails_below (λ k. is_some (find (holds c.args.survivors.now.catalog k) c.args.projections.now)) (length c.args.survivors.now.catalog.columns) c.loop-c.c (omega arith) (ap is_some c.in-None.ensures))

pub returns-clause-full : goal.returns-clause-full
returns-clause-full c =
    sym (all_below (λ k. is_some (find (holds c.args.survivors.now.catalog k) c.args.projections.now)) (length c.args.survivors.now.catalog.columns) (λ k h. c.loop-c.invariant.2 k (omega arith)))

pub loop-c-preserved : goal.loop-c-preserved
loop-c-preserved c =
    let sources = c.loop-c.sources.items in
    let at = c.loop-c.c in
    let inside : at < length sources = omega (arith, c.loop-c.invariant.0, c.loop-c-test.true) in (
      length-set sources at c.in-Some.source ∙ c.loop-c.invariant.0,
      λ k d h.
          ⊎_elim
          (λ (less : k < at).
          let ne : k ≢ at = λ e. omega arith in
          subst (IsSource c.args.survivors.now.catalog c.args.projections.now k) (sym (get_or-set_other sources at k c.in-Some.source d ne)) (c.loop-c.invariant.1 k d less))
          (λ (ge : at ≤ k).
          let here : at ≡ k = omega arith in
          subst (λ (n : ℕ). IsSource c.args.survivors.now.catalog c.args.projections.now n (get_or (set sources at c.in-Some.source) n d)) here
          (subst (IsSource c.args.survivors.now.catalog c.args.projections.now at) (sym (get_or-set_same sources at c.in-Some.source d inside)) c.in-Some.ensures))
          (cases_lt k at),
      λ k h.
          ⊎_elim
          (λ (less : k < at). c.loop-c.invariant.2 k less)
          (λ (ge : at ≤ k).
          let here : k ≡ at = omega arith in
          has c.args.survivors.now.catalog c.args.projections.now k c.in-Some.source (subst (λ (n : ℕ). IsSource c.args.survivors.now.catalog c.args.projections.now n c.in-Some.source) (sym here) c.in-Some.ensures))
          (cases_lt k at),
    )
