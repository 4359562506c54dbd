use Rattle.std.proofs.Common.{◌≡◌, ◌≤◌, take}
use Rattle.std.specs.List.{count_by}
use Rattle.cs_delta.specs.DeltaFile.{is_insert, is_delete}
use Rattle.cs_delta.proofs.item_list.rows_left.Given as goal

abbrev pub invariant-loop-i : goal.invariant-loop-i
invariant-loop-i l = record {
  inserts : l.inserts ≡ count_by is_insert (take l.i l.layer);
  deletes : l.deletes ≡ count_by is_delete (take l.i l.layer);
  few_inserts : l.inserts ≤ l.i;
  few_deletes : l.deletes ≤ l.i;
}
