use Rattle.std.proofs.Common.{refl, arith}
use Rattle.std.proofs.lemmas.Bool.{false≢true}
use Rattle.cs_delta.proofs.KeyLists.{distinct_sorted, not_distinct}
use Rattle.cs_delta.proofs.reading.are_distinct.Goals as goal

pub returns-then-sorted-i : goal.returns-then-sorted-i
returns-then-sorted-i c =
    let same = rw c.as_slice-sorted.ensures.value at c.if-sorted-i.true in (
      λ t. absurd (false≢true t),
      λ h. absurd (not_distinct c.args.keys.items c.sort_unstable.new.self.items c.loop-i.i c.sort_unstable.ensures.permutation (omega arith) (omega (arith, c.as_slice-sorted.ensures.value)) same h),
    )

pub returns : goal.returns
returns c =
    let apart = rw c.as_slice-sorted.ensures.value at c.loop-i.invariant in (
      λ t. distinct_sorted c.args.keys.items c.sort_unstable.new.self.items c.sort_unstable.ensures.permutation c.sort_unstable.ensures.sorted (λ k l e. apart k (omega (arith, c.as_slice-sorted.ensures.value)) e),
      λ h. refl,
    )
