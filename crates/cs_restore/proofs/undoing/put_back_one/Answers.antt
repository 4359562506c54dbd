use Rattle.std.proofs.Common.{sym, inr}
use Rattle.std.proofs.lemmas.Result.{on_ok_weaker}
use Rattle.cs_shelf.specs.Shelf.{Has, Lacks, MayHave, MayLack}
use Rattle.cs_restore.specs.Undoing.{IsOneBack, MayBeOneBack}
use Rattle.cs_shelf.proofs.Steps.{either, weaker}
use Rattle.cs_restore.proofs.Backs.{may_go, may_put, one_gone, one_put}
use Rattle.cs_restore.proofs.undoing.put_back_one.Goals as goal

pub returns-in-Some-clause-ok : goal.returns-in-Some-clause-ok
returns-in-Some-clause-ok g c =
    on_ok_weaker c.replace.result
    (weaker (Has c.args.name c.in-Some.bytes.now) (IsOneBack c.args.back.now c.args.name) (g.S.Shelf.holds c.args.shelf.now) (g.S.Shelf.holds c.replace.new.self)
    (λ d e has. one_put c.args.back.now d e c.args.name c.in-Some.bytes.now (sym c.in-Some.ensures) has)) c.replace.ensures.ok

pub returns-in-Some-clause-may : goal.returns-in-Some-clause-may
returns-in-Some-clause-may g c =
    weaker (MayHave c.args.name c.in-Some.bytes.now) (MayBeOneBack c.args.back.now c.args.name) (g.S.Shelf.holds c.args.shelf.now) (g.S.Shelf.holds c.replace.new.self)
    (λ d e may. may_put c.args.back.now d e c.args.name c.in-Some.bytes.now (sym c.in-Some.ensures) may)
    (either c.replace.result c.replace.ensures.ok c.replace.ensures.err
    (weaker (Has c.args.name c.in-Some.bytes.now) (MayHave c.args.name c.in-Some.bytes.now) (g.S.Shelf.holds c.args.shelf.now) (g.S.Shelf.holds c.replace.new.self) (λ d e has. inr has)))

pub returns-in-Some-clause-stop : goal.returns-in-Some-clause-stop
returns-in-Some-clause-stop g c =
    weaker (MayHave c.args.name c.in-Some.bytes.now) (MayBeOneBack c.args.back.now c.args.name) (g.S.Shelf.may_leave c.args.shelf.now) (g.S.Shelf.may_leave c.replace.new.self)
    (λ d e may. may_put c.args.back.now d e c.args.name c.in-Some.bytes.now (sym c.in-Some.ensures) may) c.replace.ensures.stop

pub returns-in-None-clause-ok : goal.returns-in-None-clause-ok
returns-in-None-clause-ok g c =
    on_ok_weaker c.remove.result
    (weaker (Lacks c.args.name) (IsOneBack c.args.back.now c.args.name) (g.S.Shelf.holds c.args.shelf.now) (g.S.Shelf.holds c.remove.new.self)
    (λ d e has. one_gone c.args.back.now d e c.args.name (sym c.in-None.ensures) has)) c.remove.ensures.ok

pub returns-in-None-clause-may : goal.returns-in-None-clause-may
returns-in-None-clause-may g c =
    weaker (MayLack c.args.name) (MayBeOneBack c.args.back.now c.args.name) (g.S.Shelf.holds c.args.shelf.now) (g.S.Shelf.holds c.remove.new.self)
    (λ d e may. may_go c.args.back.now d e c.args.name (sym c.in-None.ensures) may)
    (either c.remove.result c.remove.ensures.ok c.remove.ensures.err
    (weaker (Lacks c.args.name) (MayLack c.args.name) (g.S.Shelf.holds c.args.shelf.now) (g.S.Shelf.holds c.remove.new.self) (λ d e has. inr has)))

pub returns-in-None-clause-stop : goal.returns-in-None-clause-stop
returns-in-None-clause-stop g c =
    weaker (MayLack c.args.name) (MayBeOneBack c.args.back.now c.args.name) (g.S.Shelf.may_leave c.args.shelf.now) (g.S.Shelf.may_leave c.remove.new.self)
    (λ d e may. may_go c.args.back.now d e c.args.name (sym c.in-None.ensures) may) c.remove.ensures.stop
