use Rattle.std.proofs.Common.{◌≡◌, length, map, take, Some}
use Rattle.cs_rows.proofs.table.Table.of_borrowed.Given as goal

abbrev pub invariant-loop-c : goal.invariant-loop-c
invariant-loop-c l = record {
  count : length l.owned.items ≡ l.c;
  borrowed : l.borrowed ≡ map Some (take l.c l.columns);
}
