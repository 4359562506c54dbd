use Rattle.std.proofs.Common.{◌≡◌, ◌≤◌, length, drop}
use Rattle.cs_schema.specs.Values.{values, kind_of}
use Rattle.cs_delta.specs.Edits.{edited_from}
use Rattle.cs_delta.specs.ItemView.{cell_edits}
use Rattle.cs_delta.specs.MergeSteps.{Makes}
use Rattle.cs_delta.proofs.merging.merge_column.Given as goal

abbrev pub invariant-loop-i : goal.invariant-loop-i
invariant-loop-i l = record {
  makes : Makes (values l.base) (edited_from (cell_edits l.j l.layer) 0 (values l.base)) (values l.out) l.done (cell_edits l.j (drop l.i l.layer));
  kinds : kind_of l.out ≡ kind_of l.base;
  within : l.done ≤ length (values l.base);
}
