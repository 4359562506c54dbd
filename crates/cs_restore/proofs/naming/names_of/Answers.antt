use Rattle.std.proofs.Common.{ap, ◌∙◌, ◌++◌, map}
use Rattle.std.specs.FinMap.{entries}
use Rattle.cs_restore.specs.declared.naming.NameList.{NameList}
use Rattle.cs_restore.proofs.NameLists.{names_put}
use Rattle.cs_restore.proofs.naming.names_of.Goals as goal

pub returns-in-Ok : goal.returns-in-Ok
returns-in-Ok c =
    let saves = c.in-Ok.ensures.ok in
    saves.marked ∙ names_put {S = NameList} (λ s. s.names.items) _ (entries c.args.files.now) saves.reached saves.in_turn ∙ ap (λ l. l ++ map (λ file. file.0) (entries c.args.files.now)) c.new.ensures.items
