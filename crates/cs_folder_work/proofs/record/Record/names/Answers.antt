use Rattle.std.proofs.Common.{◌≡◌, ◌∙◌, ◌++◌, ◌∷◌, [], List, ap, sym, option_map, unwrap_or}
use Rattle.std.proofs.lemmas.List.{append-nil, append_assoc}
use Rattle.std.specs.BTreeMap.{keys}
use Rattle.std.specs.Map.{keys_of}
use Rattle.cs_schema.specs.declared.file_name.FileName.{FileName}
use Rattle.cs_folder_work.proofs.record.Record.names.Goals as goal

pub loop-name-init : goal.loop-name-init
loop-name-init c =
    let rest = c.into_iter-name-iterator.result in
    let all : rest ≡ c.in-Some.changes.entries = c.into_iter-name-iterator.ensures.into_iter_gives.0 in
    ap (λ (ns : List FileName). ns ++ keys_of rest) c.new-names.ensures.items ∙ ap keys_of all ∙ sym (ap (λ o. unwrap_or (option_map keys o) []) c.in-Some.is)

pub loop-name-preserved : goal.loop-name-preserved
loop-name-preserved c =
    let names = c.loop-name.names.items in
    let name = c.in-Some-2.name.now in
    let rest = keys_of c.next.new.self in
    ap (λ (ns : List FileName). ns ++ rest) c.in_ok-push.ensures.items ∙ append_assoc names (name ∷ []) rest ∙ ap (λ es. names ++ keys_of es) (sym c.in-Some-2.ensures.steps) ∙ c.loop-name.invariant

pub returns : goal.returns
returns c =
    let names = c.loop-name.names.items in
    sym (append-nil names) ∙ ap (λ es. names ++ keys_of es) (sym c.in-None.ensures.steps.0) ∙ c.loop-name.invariant
