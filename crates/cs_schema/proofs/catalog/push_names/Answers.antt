use Rattle.std.proofs.Common.{◌++◌, ◌∷◌, [], map, take, get_or, sym, ap, ◌∙◌, append_assoc}
use Rattle.std.proofs.lemmas.List.{map_more}
use Rattle.cs_schema.specs.declared.file_name.FileName.{FileName}
use Rattle.cs_schema.proofs.catalog.push_names.Goals as goal

pub loop-q-preserved : goal.loop-q-preserved
loop-q-preserved c =
    let before = c.args.names.now.items in
    let joins = c.args.joins.now in
    let i = c.loop-q.q-index in
    let q = get_or joins i 0 in
    let name = FileName.Jix c.args.p c.args.s in
    c.in_ok-push-3.ensures.items
    ∙ ap (λ z. c.loop-q.names.items ++ FileName.Jix c.args.p c.args.s z ∷ []) c.from.ensures
    ∙ ap (λ z. z ++ FileName.Jix c.args.p c.args.s q ∷ []) c.loop-q.invariant
    ∙ append_assoc before (FileName.Seg c.args.p c.args.s ∷ FileName.Del c.args.p c.args.s ∷ map name (take i joins)) (name q ∷ [])
    ∙ ap (λ z. before ++ FileName.Seg c.args.p c.args.s ∷ FileName.Del c.args.p c.args.s ∷ z) (sym (map_more name joins i 0 c.loop-q-test.true))
