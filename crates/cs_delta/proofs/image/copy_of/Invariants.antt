use Rattle.std.proofs.Common.{◌≡◌, map, take}
use Rattle.cs_schema.specs.Values.{values, kind_of}
use Rattle.cs_delta.proofs.image.copy_of.Given as goal

abbrev pub invariant-loop-column : goal.invariant-loop-column
invariant-loop-column l = record {
  cells : map values l.columns.items ≡ map values (take l.column-index l.column-items);
  kinds : map kind_of l.columns.items ≡ map kind_of (take l.column-index l.column-items);
}
