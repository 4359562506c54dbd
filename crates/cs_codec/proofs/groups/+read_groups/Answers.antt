use Rattle.std.proofs.Common.{arith, ◌-◌, refl}
use Rattle.cs_codec.proofs.DifferenceReading.{none_past_end, last_stands, none_after, none_where_zero, none_where_wide, more_stand}
use Rattle.cs_codec.proofs.groups.+read_groups.Goals as goal

pub returns-then-at-bytes-clause-none : goal.returns-then-at-bytes-clause-none
returns-then-at-bytes-clause-none t c = none_past_end c.args.more c.args.bytes.now c.args.at (omega arith)

pub returns-then-byte-lt128-clause-found : goal.returns-then-byte-lt128-clause-found
returns-then-byte-lt128-clause-found t c = last_stands c.args.more c.args.bytes.now c.args.at (omega arith) (omega arith)

pub returns-in_err-high-clause-none : goal.returns-in_err-high-clause-none
returns-in_err-high-clause-none t c =
    rw c.from_residual.ensures (none_after c.args.more (c.args.more - 1) c.args.bytes.now c.args.at (omega arith) (omega arith) (omega arith) c.in_err-high.ensures.none)

pub returns-then-high-eq0-clause-none : goal.returns-then-high-eq0-clause-none
returns-then-high-eq0-clause-none t c =
    none_where_zero c.args.more (c.args.more - 1) c.args.bytes.now c.args.at c.in_ok-high.high c.in_ok-high.end (omega arith) (omega arith) (omega arith) c.in_ok-high.ensures.found (omega arith)

pub returns-then-high-low-clause-none : goal.returns-then-high-low-clause-none
returns-then-high-low-clause-none t c =
    none_where_wide c.args.more (c.args.more - 1) c.args.bytes.now c.args.at c.in_ok-high.high c.in_ok-high.end _ (omega arith) (omega arith) (omega arith) c.in_ok-high.ensures.found refl c.if-high-low.true

pub returns-clause-found : goal.returns-clause-found
returns-clause-found t c =
    more_stand c.args.more (c.args.more - 1) c.args.bytes.now c.args.at c.in_ok-high.high c.in_ok-high.end _ (omega arith) (omega arith) (omega arith) (omega (arith, c.type_inv.bytes c.args.at)) c.in_ok-high.ensures.found refl (omega arith) c.if-high-low.false
