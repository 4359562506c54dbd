use Rattle.std.proofs.Common.{ℕ, List, Bool, ap, sym, ◌∙◌, ◌&&◌, get_or, lt-ltb, le-ltb}
use Rattle.cs_rows.specs.Superprojections.{has_all}
use Rattle.cs_rows.proofs.SourceLemmas.{before_by_source}
use Rattle.cs_rows.proofs.column_sources.is_found_before.Goals as goal

pub returns-then-q-projections : goal.returns-then-q-projections
returns-then-q-projections c =
    let C = c.args.survivors.now.catalog in
    let ps : List ℕ = c.args.projections.now in
    let q : ℕ = get_or ps c.args.key.reached 0 in
    c.has_all_columns.ensures ∙ ap (λ (less : Bool). less && has_all C q) (sym (lt-ltb q (get_or ps 0 0) c.if-q-projections.true)) ∙ before_by_source C ps c.args.key c.requires.key

pub returns-else-q-projections : goal.returns-else-q-projections
returns-else-q-projections c =
    let C = c.args.survivors.now.catalog in
    let ps : List ℕ = c.args.projections.now in
    let q : ℕ = get_or ps c.args.key.reached 0 in
    let not_less = le-ltb q (get_or ps 0 0) c.if-q-projections.false in
    not_less ∙ ap (λ (less : Bool). less && has_all C q) (sym not_less) ∙ before_by_source C ps c.args.key c.requires.key
