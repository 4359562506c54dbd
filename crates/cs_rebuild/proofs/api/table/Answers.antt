use Rattle.std.proofs.Common.{refl}
use Rattle.cs_store.specs.FileSet.{contents_of}
use Rattle.cs_recovery.specs.Verdicts.{IsRebuildVerdict}
use Rattle.cs_rebuild.proofs.Answered.{columns_wanted}
use Rattle.cs_rebuild.proofs.Verdicts.{memory_or, names_sites, table_answer, table_ends}
use Rattle.cs_rebuild.proofs.api.table.Goals as goal

pub answer-requires-clause-held : goal.answer-requires-clause-held
answer-requires-clause-held g c κs within = (c.args.files.now, refl, refl)

pub returns-in-Err-clause-answer : goal.returns-in-Err-clause-answer
returns-in-Err-clause-answer g c =
    memory_or _ (c.in-Err.ensures c.args.files.now refl) (IsRebuildVerdict.safe (names_sites c.args.catalog.now c.args.loss (c.has_sites.ensures.0 c.if-not-has_sites.false)) (c.safe.ensures.0 c.if-not-safe.false))

pub returns-in-Err-clause-clauses : goal.returns-in-Err-clause-clauses
returns-in-Err-clause-clauses g c = table_ends c.args.catalog.now c.projection_count-rules.ensures.rules (contents_of c.args.files.now) c.args.loss c.count-sites.ensures.sites _ (returns-in-Err-clause-answer g c)

pub returns-clause-answer : goal.returns-clause-answer
returns-clause-answer g c =
    table_answer c.args.catalog.now (contents_of c.args.files.now) c.args.loss (names_sites c.args.catalog.now c.args.loss (c.has_sites.ensures.0 c.if-not-has_sites.false)) (c.safe.ensures.0 c.if-not-safe.false) c.in-Columns.columns (rw c.in-Columns.is at (c.in-Ok.ensures c.args.files.now refl))

pub returns-clause-clauses : goal.returns-clause-clauses
returns-clause-clauses g c = table_ends c.args.catalog.now c.projection_count-rules.ensures.rules (contents_of c.args.files.now) c.args.loss c.count-sites.ensures.sites _ (returns-clause-answer g c)

pub unreachable-requires : goal.unreachable-requires
unreachable-requires g c =
    let of = c.in-Ok.ensures c.args.files.now refl in
    columns_wanted c.args.catalog.now (contents_of c.args.files.now) c.args.loss of.0 c.in-Ok.answered of.2 c.in_default.not-Columns
