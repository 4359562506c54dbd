use Rattle.std.proofs.Common.{◌≡◌, ℕ, List, [], ◌∷◌, ◌++◌, length, ap, sym, ◌∙◌, arith}
use Rattle.std.specs.List.{range_with_len}
use Rattle.cs_rows.proofs.IntRows.{rows_ascend}
use Rattle.cs_rows.proofs.LevelLemmas.{numbers_more}
use Rattle.cs_rows.proofs.RangeNumbers.{range_below}
use Rattle.cs_rows.proofs.SortedRows.{ok_then}
use Rattle.cs_rows.proofs.rows_by_int.rows_by_int.Goals as goal

pub loop-row-preserved : goal.loop-row-preserved
loop-row-preserved c = c.in_ok-push.ensures.items ∙ ap (λ (l : List ℕ). l ++ c.loop-row.row ∷ []) c.loop-row.invariant ∙ sym (numbers_more c.loop-row.row)

pub sort_by_ints-requires : goal.sort_by_ints-requires
sort_by_ints-requires c =
    let all : c.loop-row.rows.items ≡ range_with_len 0 (length c.args.ints.now) = c.loop-row.invariant ∙ ap (range_with_len 0) (omega arith) in
    rw (c.deref.ensures.value, all) (range_below (length c.args.ints.now))

pub returns-clause-permutation : goal.returns-clause-permutation
returns-clause-permutation c =
    let all : c.loop-row.rows.items ≡ range_with_len 0 (length c.args.ints.now) = c.loop-row.invariant ∙ ap (range_with_len 0) (omega arith) in
    ok_then c.indices.result _ _ c.indices.ensures (λ v e. rw (e, c.deref-2.ensures.value) (rw (c.deref.ensures.value, all) at c.in_ok-sorted.ensures.permutation))

pub returns-clause-sorted : goal.returns-clause-sorted
returns-clause-sorted c =
    let all : c.loop-row.rows.items ≡ range_with_len 0 (length c.args.ints.now) = c.loop-row.invariant ∙ ap (range_with_len 0) (omega arith) in
    ok_then c.indices.result _ _ c.indices.ensures (λ v e.
    rw (e, c.deref-2.ensures.value)
    (rows_ascend c.args.ints.now c.deref.result.now c.in_ok-sorted.sorted.items (c.deref.ensures.value ∙ all) c.in_ok-sorted.ensures.permutation c.in_ok-sorted.ensures.sorted))
