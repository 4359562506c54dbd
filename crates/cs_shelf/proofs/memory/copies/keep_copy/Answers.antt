use Rattle.std.proofs.Common.{Some, IsSome, sym, ◌∙◌, ap, subst, refl}
use Rattle.cs_shelf.proofs.Copies.{one_added, put_there}
use Rattle.cs_shelf.proofs.memory.copies.keep_copy.Goals as goal

pub returns-in-Ok-put-clause-ok : goal.returns-in-Ok-put-clause-ok
returns-in-Ok-put-clause-ok c there = subst IsSome (sym (put_there c.args.kept.now c.put.new.self c.args.name c.in-Ok.copy.items c.in-Ok-put.ensures.ok)) refl

pub returns-in-Ok-put-clause-copies : goal.returns-in-Ok-put-clause-copies
returns-in-Ok-put-clause-copies c =
    one_added c.args.files.now c.args.kept.now c.put.new.self c.args.name c.in-Ok.copy.items (sym c.in-None.ensures)
    (sym c.in-Some.ensures ∙ ap Some (sym c.in-Ok.ensures.items)) c.in-Ok-put.ensures.ok
