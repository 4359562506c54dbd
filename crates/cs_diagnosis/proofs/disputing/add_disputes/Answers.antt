use Rattle.std.proofs.Common.{refl, arith}
use Rattle.cs_design.proofs.Items.{item_at}
use Rattle.cs_diagnosis.proofs.disputing.add_disputes.Goals as goal

pub disputes_of-requires-clause-first : goal.disputes_of-requires-clause-first
disputes_of-requires-clause-first c =
    let low = c.requires.places in
    let within = c.requires.within in
    c.requires.tables c.args.first c.index-tables-first.result (item_at c.args.tables.now c.args.first c.index-tables-first.result (omega (arith, low, within)) c.index-tables-first.is)

pub disputes_of-requires-clause-second : goal.disputes_of-requires-clause-second
disputes_of-requires-clause-second c =
    c.requires.tables c.args.second c.index-tables-second.result (item_at c.args.tables.now c.args.second c.index-tables-second.result c.requires.within c.index-tables-second.is)

pub returns : goal.returns
returns c =
    let low = c.requires.places in
    let within = c.requires.within in (
      record { first = c.args.first; second = c.args.second; disputes = c.in_ok-disputes.disputes },
      c.in_ok-push.ensures.items,
      record {
        first_table = c.index-tables-first.result;
        second_table = c.index-tables-second.result;
        ascend = low;
        first = item_at c.args.tables.now c.args.first c.index-tables-first.result (omega (arith, low, within)) c.index-tables-first.is;
        second = item_at c.args.tables.now c.args.second c.index-tables-second.result within c.index-tables-second.is;
        disputes = c.in_ok-disputes.ensures;
      },
      refl,
      refl,
    )
