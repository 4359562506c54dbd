use Rattle.std.proofs.Common.{◌≡◌, length, Vec, Global, vec_len, sym, ap, subst, ◌∙◌, arith}
use Rattle.cs_recovery.specs.Holding.{HoldsSurvivors}
use Rattle.cs_diagnosis.specs.Findings.{IsVerdict}
use Rattle.cs_diagnosis.specs.Summary.{verdict_for}
use Rattle.cs_diagnosis.proofs.Summaries.{is_verdict}
use Rattle.cs_diagnosis.specs.Diagnoses.{rows_found}
use Rattle.cs_diagnosis.proofs.Diagnosed.{are_forced, are_loss, is_diagnosis}
use Rattle.cs_diagnosis.proofs.diagnosing.diagnose_read.Goals as goal

len_is : {X : Type 0} (v : Vec X Global) → vec_len v ≡ length v.items
len_is v = omega arith

pub reach_of-reach-requires-clause-forced : goal.reach_of-reach-requires-clause-forced
reach_of-reach-requires-clause-forced g c =
    let m = c.args.remains.now in
    let told = c.requires.read.3 in
    are_loss m.catalog.now c.args.remains.now.rules c.requires.read.0 c.requires.read.1 told.absent c.args.bad.items told.list m.first told.sites_are c.count-sites.ensures.sites

pub returns-in-Ok : goal.returns-in-Ok
returns-in-Ok g c = λ F unreadable read told.
    let m = c.args.remains.now in
    let C = m.catalog.now in
    let cat = c.args.remains.now.rules in
    let found = c.in-Ok.found.explanations.items in
    let tables = c.in-Ok.found.tables.items in
    let explained = c.in-Ok.ensures F read (are_forced C cat F unreadable told.absent c.args.bad.items told.list m.first told.sites_are) in
    let verdict : c.verdict_of.result ≡ verdict_for found (length tables) = c.verdict_of.ensures ∙ ap (λ es. verdict_for es c.len.result) c.as_slice.ensures.value ∙ ap (verdict_for found) (c.len.ensures ∙ len_is c.in-Ok.found.tables) in
    is_diagnosis C cat F unreadable told.absent c.args.at_most _ told.list c.count-sites.ensures.sites told.sites_are c.reach_of-reach.ensures explained
    (λ one grows. subst (IsVerdict C (HoldsSurvivors C F) c.reach_of-reach.result.at_most) (sym verdict) (is_verdict C (HoldsSurvivors C F) c.reach_of-reach.result.at_most rows_found tables one grows found explained))
