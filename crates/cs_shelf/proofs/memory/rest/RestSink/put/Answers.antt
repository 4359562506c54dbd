use Rattle.std.proofs.Common.{refl, sym, ap, ◌∙◌}
use Rattle.std.specs.FinMap.{insert}
use Rattle.cs_shelf.proofs.Rest.{passed_over, had_one, put_new}
use Rattle.cs_shelf.proofs.memory.rest.RestSink.put.Goals as goal

pub returns-then-eq-clause-ok : goal.returns-then-eq-clause-ok
returns-then-eq-clause-ok c = record { gone = refl; files = passed_over c.args.self.now c.args.self.now c.args.name c.args.bytes.now (sym c.if-eq.ensures) }

pub returns-in_default-clause-ok : goal.returns-in_default-clause-ok
returns-in_default-clause-ok c = record { gone = refl; files = had_one c.args.self.now c.args.self.now c.args.name c.args.bytes.now c.in_default.field-0.now (sym c.in_default.ensures) }

pub returns-in-Ok-put-clause-ok : goal.returns-in-Ok-put-clause-ok
returns-in-Ok-put-clause-ok c = record { gone = refl; files = put_new c.args.self.now (record { files = c.put.new.self; gone = c.args.self.now.gone; alloc = c.args.self.now.alloc }) c.args.name c.args.bytes.now (sym c.if-eq.ensures) (sym c.in-None.ensures) (c.in-Ok-put.ensures.ok ∙ ap (insert c.args.self.now.files c.args.name) c.in-Ok.ensures.items) }
