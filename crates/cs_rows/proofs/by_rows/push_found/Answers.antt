use Rattle.std.proofs.Common.{sym, ◌∙◌, true≢false}
use Rattle.cs_rows.proofs.SourceLemmas.{told_given}
use Rattle.cs_rows.proofs.by_rows.push_found.Goals as goal

pub returns-in_ok-push_row-clause-not_given : goal.returns-in_ok-push_row-clause-not_given
returns-in_ok-push_row-clause-not_given c not_given =
    absurd (true≢false (sym c.if-sources.true ∙ told_given c.args.fresh_only c.args.survivors.now.catalog c.args.reached_rows.now c.update.new.self c.reached-reached.result.now c.reached-reached.ensures c.in_ok-update.ensures.sources c.in_ok-update.ensures.projections ∙ not_given))

pub returns-else-sources-clause-given : goal.returns-else-sources-clause-given
returns-else-sources-clause-given c given =
    absurd (true≢false (sym given ∙ sym (told_given c.args.fresh_only c.args.survivors.now.catalog c.args.reached_rows.now c.update.new.self c.reached-reached.result.now c.reached-reached.ensures c.in_ok-update.ensures.sources c.in_ok-update.ensures.projections) ∙ c.if-sources.false))
