use Rattle.std.proofs.Common.{refl}
use Rattle.cs_shelf.proofs.Rest.{lacks_one, marked_same}
use Rattle.cs_shelf.proofs.memory.rest.without.Goals as goal

pub returns-in-Ok-save-clause-gone : goal.returns-in-Ok-save-clause-gone
returns-in-Ok-save-clause-gone c =
    let saves = c.in-Ok-save.ensures.ok in
    marked_same c.args.files.now saves.reached c.save.new.sink c.args.name saves.marked (lacks_one c.args.files.now _ saves.reached c.args.name c.in-Ok.ensures refl saves.in_turn)
