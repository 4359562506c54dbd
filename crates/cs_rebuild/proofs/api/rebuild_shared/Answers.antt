use Rattle.cs_store.specs.FileSet.{contents_of}
use Rattle.cs_recovery.specs.Verdicts.{IsRebuildVerdict}
use Rattle.cs_rebuild.proofs.Answered.{files_wanted}
use Rattle.cs_rebuild.proofs.Verdicts.{memory_or, names_sites, rebuild_answer, rebuild_ends}
use Rattle.cs_rebuild.proofs.api.rebuild_shared.Goals as goal

pub returns-in-Err-clause-answer : goal.returns-in-Err-clause-answer
returns-in-Err-clause-answer g c F held =
    memory_or _ (c.in-Err.ensures F held) (IsRebuildVerdict.safe (names_sites c.args.catalog.now c.args.loss (c.has_sites.ensures.0 c.if-not-has_sites.false)) (c.safe.ensures.0 c.if-not-safe.false))

pub returns-in-Err-clause-clauses : goal.returns-in-Err-clause-clauses
returns-in-Err-clause-clauses g c F held = rebuild_ends c.args.catalog.now c.projection_count-rules.ensures.rules (contents_of F) c.args.loss c.count-sites.ensures.sites _ (returns-in-Err-clause-answer g c F held)

pub returns-clause-answer : goal.returns-clause-answer
returns-clause-answer g c F held =
    rebuild_answer c.args.catalog.now (contents_of F) c.args.loss (names_sites c.args.catalog.now c.args.loss (c.has_sites.ensures.0 c.if-not-has_sites.false)) (c.safe.ensures.0 c.if-not-safe.false) c.in-Files.files (rw c.in-Files.is at (c.in-Ok.ensures F held))

pub returns-clause-clauses : goal.returns-clause-clauses
returns-clause-clauses g c F held = rebuild_ends c.args.catalog.now c.projection_count-rules.ensures.rules (contents_of F) c.args.loss c.count-sites.ensures.sites _ (returns-clause-answer g c F held)

pub unreachable-requires : goal.unreachable-requires
unreachable-requires g c =
    let F = c.requires.held.0 in
    let of = c.in-Ok.ensures F c.requires.held.1 in
    files_wanted c.args.catalog.now (contents_of F) c.args.loss of.0 c.in-Ok.answered of.2 c.in_default.not-Files
