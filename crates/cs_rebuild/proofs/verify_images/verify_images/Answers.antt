use Rattle.std.proofs.Common.{ℕ, List, subst, sym, ap, ◌∙◌}
use Rattle.std.specs.List.{find}
use Rattle.std.specs.Option.{option_map}
use Rattle.cs_schema.specs.Lists.{IsIn}
use Rattle.cs_store.specs.declared.fault.Fault.{Fault}
use Rattle.cs_rows.specs.Survivors.{contents_of}
use Rattle.cs_order.specs.Tables.{table_of}
use Rattle.cs_recovery.proofs.Exact.{survivors_survive}
use Rattle.cs_rebuild.specs.Verifying.{is_misplaced}
use Rattle.cs_rebuild.proofs.Verdicts.{memory_or}
use Rattle.cs_rebuild.proofs.Firsts.{none_passes, first_passes}
use Rattle.cs_rebuild.proofs.verify_images.verify_images.Goals as goal

pub invariant_of-tasks : goal.invariant_of-tasks
invariant_of-tasks g c = record { few = c.requires.few; survive = λ a i. survivors_survive c.args.store.now.catalog.now c.args.store.now.loss a (subst (IsIn a) c.requires.segments i) }

pub returns-in-Ok-clause-ok : goal.returns-in-Ok-clause-ok
returns-in-Ok-clause-ok g c =
    let C = c.args.store.now.catalog.now in
    let S = contents_of c.args.store.now.survivors.now in
    let T = table_of C c.args.store.now.walked.rows in
    ap (λ (l : List (ℕ × ℕ)). option_map (λ (a : ℕ × ℕ). Fault.Misplaced a.0 a.1) (find (is_misplaced C S T) l)) (sym c.requires.segments)
    ∙ none_passes (is_misplaced C S T) (λ (a : ℕ × ℕ). Fault.Misplaced a.0 a.1) c.args.segments.now c.in-Ok.ensures.ok.sound

pub returns-in-Err-clause-err : goal.returns-in-Err-clause-err
returns-in-Err-clause-err g c =
    let C = c.args.store.now.catalog.now in
    let S = contents_of c.args.store.now.survivors.now in
    let T = table_of C c.args.store.now.walked.rows in
    memory_or _ c.in-Err.ensures.err (λ least.
    ap (λ (l : List (ℕ × ℕ)). option_map (λ (a : ℕ × ℕ). Fault.Misplaced a.0 a.1) (find (is_misplaced C S T) l)) (sym c.requires.segments)
    ∙ first_passes (is_misplaced C S T) (λ (a : ℕ × ℕ). Fault.Misplaced a.0 a.1) c.args.segments.now least.at c.in-Err.fault least.here least.before)
