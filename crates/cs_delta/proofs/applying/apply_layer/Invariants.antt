use Rattle.std.proofs.Common.{◌≡◌, map, take, drop}
use Rattle.cs_schema.specs.Values.{values, kind_of}
use Rattle.cs_delta.specs.Layers.{edited_columns}
use Rattle.cs_delta.proofs.applying.apply_layer.Given as goal

abbrev pub invariant-loop-j : goal.invariant-loop-j
invariant-loop-j l = record {
  left : l.columns.items ≡ drop l.j l.fn.columns.items;
  columns_are : map values l.merged.items ≡ edited_columns l.layer 0 (map values (take l.j l.fn.columns.items));
  kinds : map kind_of l.merged.items ≡ map kind_of (take l.j l.fn.columns.items);
}
