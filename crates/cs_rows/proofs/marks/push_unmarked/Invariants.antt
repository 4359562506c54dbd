use Rattle.std.proofs.Common.{◌≡◌, ◌≤◌, ◌-◌, ◌++◌, take, drop}
use Rattle.cs_schema.specs.Values.{values, kind_of}
use Rattle.cs_rows.specs.Repeats.{unmarked}
use Rattle.cs_rows.proofs.marks.push_unmarked.Given as goal

-- the cells copied so far and those still to be copied are the unmarked cells of the rows so far
abbrev pub invariant-loop-at : goal.invariant-loop-at
invariant-loop-at l = record {
  order : l.from ≤ l.at;
  kind : kind_of l.left ≡ kind_of l.fn.left;
  cells : values l.left ++ take (l.at - l.from) (drop l.from (values l.cells)) ≡ values l.fn.left ++ unmarked (take l.at l.marks) (take l.at (values l.cells));
}
