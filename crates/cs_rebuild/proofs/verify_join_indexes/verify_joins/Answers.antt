use Rattle.std.proofs.Common.{ℕ, List, subst, sym, ap, ◌∙◌}
use Rattle.std.specs.List.{find}
use Rattle.std.specs.Option.{option_map}
use Rattle.cs_schema.specs.Lists.{IsIn}
use Rattle.cs_store.specs.declared.fault.Fault.{Fault}
use Rattle.cs_rows.specs.Survivors.{contents_of}
use Rattle.cs_order.specs.Tables.{table_of}
use Rattle.cs_recovery.proofs.Exact.{joins_survive}
use Rattle.cs_rebuild.specs.Verifying.{is_misled}
use Rattle.cs_rebuild.proofs.Verdicts.{memory_or}
use Rattle.cs_rebuild.proofs.Firsts.{none_passes, first_passes}
use Rattle.cs_rebuild.proofs.verify_join_indexes.verify_joins.Goals as goal

pub invariant_of-tasks : goal.invariant_of-tasks
invariant_of-tasks g c = record { few = c.requires.few; survive = λ a i. joins_survive c.args.store.now.catalog.now c.args.store.now.loss a (subst (IsIn a) c.requires.joins i) }

pub returns-in-Ok-clause-ok : goal.returns-in-Ok-clause-ok
returns-in-Ok-clause-ok g c =
    let C = c.args.store.now.catalog.now in
    let S = contents_of c.args.store.now.survivors.now in
    let T = table_of C c.args.store.now.walked.rows in
    ap (λ (l : List (ℕ × ℕ × ℕ)). option_map (λ (a : ℕ × ℕ × ℕ). Fault.Misled a.0 a.1 a.2) (find (is_misled C c.args.store.now.loss S T) l)) (sym c.requires.joins)
    ∙ none_passes (is_misled C c.args.store.now.loss S T) (λ (a : ℕ × ℕ × ℕ). Fault.Misled a.0 a.1 a.2) c.args.joins.now c.in-Ok.ensures.ok.sound

pub returns-in-Err-clause-err : goal.returns-in-Err-clause-err
returns-in-Err-clause-err g c =
    let C = c.args.store.now.catalog.now in
    let S = contents_of c.args.store.now.survivors.now in
    let T = table_of C c.args.store.now.walked.rows in
    memory_or _ c.in-Err.ensures.err (λ least.
    ap (λ (l : List (ℕ × ℕ × ℕ)). option_map (λ (a : ℕ × ℕ × ℕ). Fault.Misled a.0 a.1 a.2) (find (is_misled C c.args.store.now.loss S T) l)) (sym c.requires.joins)
    ∙ first_passes (is_misled C c.args.store.now.loss S T) (λ (a : ℕ × ℕ × ℕ). Fault.Misled a.0 a.1 a.2) c.args.joins.now least.at c.in-Err.fault least.here least.before)
