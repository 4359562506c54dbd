use Rattle.std.proofs.Common.{refl}
use Rattle.cs_shelf.proofs.Past.{at_any_fault, elapses_to, nothing_put, file_put, file_may_be_put}
use Rattle.cs_shelf.proofs.memory.MemoryShelfShelf.replace.Goals as goal

pub returns-then-eq-clause-err : goal.returns-then-eq-clause-err
returns-then-eq-clause-err c = nothing_put c.args.name c.args.bytes.now c.args.self.now.files c.args.self.now.files refl

pub returns-then-eq-clause-stop : goal.returns-then-eq-clause-stop
returns-then-eq-clause-stop c = nothing_put c.args.name c.args.bytes.now c.args.self.now.files c.args.self.now.files refl

pub returns-in_err-put_over-clause-err : goal.returns-in_err-put_over-clause-err
returns-in_err-put_over-clause-err c = at_any_fault c.from_residual.result (nothing_put c.args.name c.args.bytes.now c.args.self.now.files c.put_over.new.files c.in_err-put_over.ensures.err)

pub returns-in_err-put_over-clause-stop : goal.returns-in_err-put_over-clause-stop
returns-in_err-put_over-clause-stop c = nothing_put c.args.name c.args.bytes.now c.args.self.now.files c.put_over.new.files c.in_err-put_over.ensures.err

pub returns-then-eq-2-clause-err : goal.returns-then-eq-2-clause-err
returns-then-eq-2-clause-err c = file_may_be_put c.args.name c.args.bytes.now c.args.self.now.files c.put_over.new.files c.in_ok-put_over.ensures.ok

pub returns-then-eq-2-clause-stop : goal.returns-then-eq-2-clause-stop
returns-then-eq-2-clause-stop c = file_may_be_put c.args.name c.args.bytes.now c.args.self.now.files c.put_over.new.files c.in_ok-put_over.ensures.ok

pub returns-then-eq-2-clause-time : goal.returns-then-eq-2-clause-time
returns-then-eq-2-clause-time c = elapses_to c.args.self.now.past.items c.put_over.new.past.items c.args.self.now.files c.put_over.new.files c.in_ok-put_over.ensures.past

pub returns-clause-ok : goal.returns-clause-ok
returns-clause-ok c = file_put c.args.name c.args.bytes.now c.args.self.now.files c.put_over.new.files c.in_ok-put_over.ensures.ok

pub returns-clause-stop : goal.returns-clause-stop
returns-clause-stop c = file_may_be_put c.args.name c.args.bytes.now c.args.self.now.files c.put_over.new.files c.in_ok-put_over.ensures.ok

pub returns-clause-time : goal.returns-clause-time
returns-clause-time c = elapses_to c.args.self.now.past.items c.put_over.new.past.items c.args.self.now.files c.put_over.new.files c.in_ok-put_over.ensures.past
