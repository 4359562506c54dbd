use Rattle.std.proofs.Common.{List, length, map, sym, subst, ap, ◌∙◌}
use Rattle.std.specs.List.{range_with_len}
use Rattle.std.specs.List.Sorted.{IsPermutation, IsSorted}
use Rattle.cs_schema.specs.declared.cells.Value.{Value}
use Rattle.cs_schema.specs.Values.{values}
use Rattle.cs_rows.specs.Repeats.{numbered_cmp}
use Rattle.cs_rows.proofs.SortedRows.{ok_then, same_numbers, ascending_numbers}
use Rattle.cs_rows.proofs.repeats.sorted_rows.Given.{Over}
use Rattle.cs_rows.proofs.repeats.sorted_rows.Goals as goal

module _ (g : Over) (c : goal.After-drop-rows g) where
  moved : IsPermutation c.in_ok-rows.rows.items c.par_sort_unstable.new.s
  moved = rw (← c.as_mut_slice-rows.ensures.value) c.par_sort_unstable.ensures.permutation

pub returns-clause-permutation : goal.returns-clause-permutation
returns-clause-permutation g c =
    ok_then c.numbers.result _ _ c.numbers.ensures (λ v e.
    rw e (same_numbers c.args.keys.now c.in_ok-rows.rows.items c.par_sort_unstable.new.s (range_with_len 0 (length (values c.args.keys.now))) c.in_ok-rows.ensures.numbers (moved g c)))

pub returns-clause-sorted : goal.returns-clause-sorted
returns-clause-sorted g c =
    ok_then c.numbers.result _ _ c.numbers.ensures (λ v e.
    rw e (ascending_numbers c.args.keys.now c.in_ok-rows.rows.items c.par_sort_unstable.new.s (range_with_len 0 (length (values c.args.keys.now))) c.in_ok-rows.ensures.numbers (moved g c) c.in_ok-rows.ensures.alike c.par_sort_unstable.ensures.sorted))

pub returns-then-len-lt-NUMBERED-clause-sorted : goal.returns-then-len-lt-NUMBERED-clause-sorted
returns-then-len-lt-NUMBERED-clause-sorted g c =
    ok_then c.rows_by_int.result _ _ c.rows_by_int.ensures.sorted (λ v up.
    subst (λ (keys : List Value). IsSorted (numbered_cmp keys) v.items) (ap (map Value.Int) c.deref.ensures.value ∙ ap values (sym c.in-Ints.is)) up)
