use Rattle.std.proofs.Common.{◌≡◌, ◌+◌, ◌-◌, ◌≤◌, List, length, take}
use Rattle.cs_diagnosis.specs.Columns.{rows_in}
use Rattle.cs_diagnosis.specs.declared.merging.Dispute.{Dispute}
use Rattle.cs_diagnosis.proofs.MergedSoFar.{IsMerged}
use Rattle.cs_diagnosis.proofs.merging.find_disputes.Given as goal

abbrev pub invariant-loop-i : goal.invariant-loop-i
invariant-loop-i l = record {
  within : l.i ≤ l.rows;
  others : l.j ≤ l.others;
  found : (all : List Dispute) × IsMerged l.catalog.key (rows_in l.first) (rows_in l.second) l.i l.j all × (length all ≡ l.found.count) × (l.found.rows.items ≡ take l.at_most all);
}

abbrev pub decreases-loop-i : goal.decreases-loop-i
decreases-loop-i l = (l.rows - l.i) + (l.others - l.j)
