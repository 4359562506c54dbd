use Rattle.std.proofs.Common.{refl}
use Rattle.cs_shelf.proofs.Past.{at_any_fault, elapses_to, nothing_gone, file_gone, file_may_be_gone}
use Rattle.cs_shelf.proofs.memory.MemoryShelfShelf.remove.Goals as goal

pub returns-then-eq-clause-err : goal.returns-then-eq-clause-err
returns-then-eq-clause-err c = nothing_gone c.args.name c.args.self.now.files c.args.self.now.files refl

pub returns-then-eq-clause-stop : goal.returns-then-eq-clause-stop
returns-then-eq-clause-stop c = nothing_gone c.args.name c.args.self.now.files c.args.self.now.files refl

pub returns-in_err-take_away-clause-err : goal.returns-in_err-take_away-clause-err
returns-in_err-take_away-clause-err c = at_any_fault c.from_residual.result (nothing_gone c.args.name c.args.self.now.files c.take_away.new.files c.in_err-take_away.ensures.err)

pub returns-in_err-take_away-clause-stop : goal.returns-in_err-take_away-clause-stop
returns-in_err-take_away-clause-stop c = nothing_gone c.args.name c.args.self.now.files c.take_away.new.files c.in_err-take_away.ensures.err

pub returns-then-eq-2-clause-err : goal.returns-then-eq-2-clause-err
returns-then-eq-2-clause-err c = file_may_be_gone c.args.name c.args.self.now.files c.take_away.new.files c.in_ok-take_away.ensures.ok

pub returns-then-eq-2-clause-stop : goal.returns-then-eq-2-clause-stop
returns-then-eq-2-clause-stop c = file_may_be_gone c.args.name c.args.self.now.files c.take_away.new.files c.in_ok-take_away.ensures.ok

pub returns-then-eq-2-clause-time : goal.returns-then-eq-2-clause-time
returns-then-eq-2-clause-time c = elapses_to c.args.self.now.past.items c.take_away.new.past.items c.args.self.now.files c.take_away.new.files c.in_ok-take_away.ensures.past

pub returns-clause-ok : goal.returns-clause-ok
returns-clause-ok c = file_gone c.args.name c.args.self.now.files c.take_away.new.files c.in_ok-take_away.ensures.ok

pub returns-clause-stop : goal.returns-clause-stop
returns-clause-stop c = file_may_be_gone c.args.name c.args.self.now.files c.take_away.new.files c.in_ok-take_away.ensures.ok

pub returns-clause-time : goal.returns-clause-time
returns-clause-time c = elapses_to c.args.self.now.past.items c.take_away.new.past.items c.args.self.now.files c.take_away.new.files c.in_ok-take_away.ensures.past
