use Rattle.std.proofs.Common.{◌≡◌, map, All}
use Rattle.std.specs.List.{range_with_len}
use Rattle.cs_rows.specs.declared.repeats.KeyedRow.{KeyedRow}
use Rattle.cs_rows.proofs.repeats.keyed_rows.Given as goal

abbrev pub invariant-loop-row : goal.invariant-loop-row
invariant-loop-row l = record {
  numbers : map (λ (item : KeyedRow). item.row) l.rows.items ≡ range_with_len 0 l.row;
  alike : All (λ (item : KeyedRow). item.keys.now ≡ l.keys) l.rows.items;
}
