use Rattle.std.proofs.Common.{sym, ◌∙◌, ◌<◌, ℕ, All, length, subst}
use Rattle.cs_rows.proofs.SourceLemmas.{all_numbers}
use Rattle.cs_rows.proofs.column_sources.ColumnSources.update.Goals as goal

pub find_sources-requires-clause-there : goal.find_sources-requires-clause-there
find_sources-requires-clause-there c =
    let n = length c.args.survivors.now.catalog.projections in
    subst (All (λ (p : ℕ). p < n)) (sym (c.as_slice-projections.ensures.value ∙ c.in_ok-list_projections.ensures)) (all_numbers n c.args.reached.now c.requires.there)

pub is_left_out-requires-clause-there : goal.is_left_out-requires-clause-there
is_left_out-requires-clause-there c =
    let n = length c.args.survivors.now.catalog.projections in
    subst (All (λ (p : ℕ). p < n)) (sym (c.as_slice-projections.ensures.value ∙ c.in_ok-list_projections.ensures)) (all_numbers n c.args.reached.now c.requires.there)
