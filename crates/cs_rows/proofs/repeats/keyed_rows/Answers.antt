use Rattle.std.proofs.Common.{refl}
use Rattle.cs_rows.proofs.SortedRows.{keyed_more}
use Rattle.cs_rows.proofs.repeats.keyed_rows.Goals as goal

pub loop-row-preserved : goal.loop-row-preserved
loop-row-preserved c =
    let more = keyed_more c.args.keys.now c.loop-row.row c.loop-row.rows.items c.push.new.self.items _ c.in_ok-push.ensures.items refl refl c.loop-row.invariant.numbers c.loop-row.invariant.alike in
    record { numbers = more.0; alike = more.1 }
