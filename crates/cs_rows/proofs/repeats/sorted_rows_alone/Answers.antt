use Rattle.std.proofs.Common.{length}
use Rattle.std.specs.List.{range_with_len}
use Rattle.std.specs.List.Sorted.{IsPermutation}
use Rattle.cs_schema.specs.Values.{values}
use Rattle.cs_rows.proofs.SortedRows.{ok_then, same_numbers, ascending_numbers}
use Rattle.cs_rows.proofs.repeats.sorted_rows_alone.Goals as goal

module _ (c : goal.After-drop-rows) where
  moved : IsPermutation c.in_ok-rows.rows.items c.sort_unstable.new.self
  moved = rw (← c.as_mut_slice-rows.ensures.value) c.sort_unstable.ensures.permutation

pub returns-clause-permutation : goal.returns-clause-permutation
returns-clause-permutation c =
    ok_then c.numbers.result _ _ c.numbers.ensures (λ v e.
    rw e (same_numbers c.args.keys.now c.in_ok-rows.rows.items c.sort_unstable.new.self (range_with_len 0 (length (values c.args.keys.now))) c.in_ok-rows.ensures.numbers (moved c)))

pub returns-clause-sorted : goal.returns-clause-sorted
returns-clause-sorted c =
    ok_then c.numbers.result _ _ c.numbers.ensures (λ v e.
    rw e (ascending_numbers c.args.keys.now c.in_ok-rows.rows.items c.sort_unstable.new.self (range_with_len 0 (length (values c.args.keys.now))) c.in_ok-rows.ensures.numbers (moved c) c.in_ok-rows.ensures.alike c.sort_unstable.ensures.sorted))
