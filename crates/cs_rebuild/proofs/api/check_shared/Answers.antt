use Rattle.std.proofs.Common.{sym, subst, Ok, Err}
use Rattle.cs_store.specs.FileSet.{contents_of}
use Rattle.cs_recovery.specs.Claims.{IsCheckAnswer}
use Rattle.cs_recovery.specs.Verdicts.{IsCheckVerdict}
use Rattle.cs_recovery.proofs.CheckClauses.{safe_whole}
use Rattle.cs_safety.specs.Safety.{IsSafe}
use Rattle.cs_rebuild.specs.Answers.{IsAnswer}
use Rattle.cs_rebuild.specs.declared.wanted.Wanted.{Wanted}
use Rattle.cs_rebuild.proofs.Answered.{count_wanted}
use Rattle.cs_rebuild.proofs.Verdicts.{unsafe_catalog, check_answer, check_ends, memory_or}
use Rattle.cs_rebuild.proofs.api.check_shared.Goals as goal

pub returns-in-Err-clause-answer : goal.returns-in-Err-clause-answer
returns-in-Err-clause-answer g c F held =
    subst (λ f. IsCheckAnswer c.args.catalog.now (contents_of F) c.args.k (Err f)) (sym c.safety_refusal.ensures) (unsafe_catalog c.args.catalog.now (contents_of F) c.args.k c.in-Err.fault c.in-Err.ensures.refused)

pub returns-in-Err-clause-clauses : goal.returns-in-Err-clause-clauses
returns-in-Err-clause-clauses g c F held = check_ends c.args.catalog.now c.projection_count-rules.ensures.rules (contents_of F) c.args.k _ (returns-in-Err-clause-answer g c F held)

pub answer-requires-clause-safe : goal.answer-requires-clause-safe
answer-requires-clause-safe g c κs within = subst (IsSafe c.args.catalog.now) (sym c.none.ensures) (safe_whole c.args.catalog.now c.args.k c.in_default.ensures.safe)

pub returns-in-Err-answer-clause-answer : goal.returns-in-Err-answer-clause-answer
returns-in-Err-answer-clause-answer g c F held =
    memory_or _ (subst (λ L. IsAnswer Wanted.Count c.args.catalog.now (contents_of F) L (Err c.in-Err-answer.fault)) c.none.ensures (c.in-Err-answer.ensures F held)) (IsCheckVerdict.safe c.in_default.ensures.limit c.in_default.ensures.safe)

pub returns-in-Err-answer-clause-clauses : goal.returns-in-Err-answer-clause-clauses
returns-in-Err-answer-clause-clauses g c F held = check_ends c.args.catalog.now c.projection_count-rules.ensures.rules (contents_of F) c.args.k _ (returns-in-Err-answer-clause-answer g c F held)

pub returns-clause-answer : goal.returns-clause-answer
returns-clause-answer g c F held =
    check_answer c.args.catalog.now (contents_of F) c.args.k c.in_default.ensures.limit c.in_default.ensures.safe c.in-Count.rows
    (rw c.in-Count.is at (subst (λ L. IsAnswer Wanted.Count c.args.catalog.now (contents_of F) L (Ok c.in-Ok.answered)) c.none.ensures (c.in-Ok.ensures F held)))

pub returns-clause-clauses : goal.returns-clause-clauses
returns-clause-clauses g c F held = check_ends c.args.catalog.now c.projection_count-rules.ensures.rules (contents_of F) c.args.k _ (returns-clause-answer g c F held)

pub unreachable-requires : goal.unreachable-requires
unreachable-requires g c =
    let F = c.requires.held.0 in
    let of = c.in-Ok.ensures F c.requires.held.1 in
    count_wanted c.args.catalog.now (contents_of F) c.none.result of.0 c.in-Ok.answered of.2 c.in_default-answered.not-Count
