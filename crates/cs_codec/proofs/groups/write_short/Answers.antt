use Rattle.std.proofs.Common.{arith}
use Rattle.cs_codec.proofs.DifferenceReading.{groups_begin, groups_more, groups_end}
use Rattle.cs_codec.proofs.groups.write_short.Goals as goal

pub loop-rest-init : goal.loop-rest-init
loop-rest-init c = groups_begin c.args.n c.args.out.now.items (omega arith)

pub loop-rest-preserved : goal.loop-rest-preserved
loop-rest-preserved c = groups_more c.loop-rest.out.items c.push.new.self.items _ c.loop-rest.rest (omega arith) c.in_ok-push.ensures.items c.loop-rest.invariant

pub returns : goal.returns
returns c = groups_end c.loop-rest.out.items c.push-2.new.self.items _ c.loop-rest.rest (omega arith) c.in_ok-push-2.ensures.items c.loop-rest.invariant
