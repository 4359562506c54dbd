use Rattle.std.proofs.Common.{◌≡◌, ◌*◌, ◌+◌, ◌-◌, ◌∷◌, [], length, sym, ap, ◌∙◌, take, drop, arith, length-append}
use Rattle.std.specs.List.{zip}
use Rattle.cs_jix.specs.Entries.{entries_text}
use Rattle.cs_jix.proofs.JoinLemmas.{entries_more}
use Rattle.cs_jix.proofs.reading.read_entries.Goals as goal

pub loop-i-preserved : goal.loop-i-preserved
loop-i-preserved c =
    let done = c.loop-i.invariant in
    let e : 6 * c.loop-i.i + 6 - 6 * c.loop-i.i ≡ 6 = omega arith in
    let here = sym (ap (λ n. take n (drop (6 * c.loop-i.i) c.args.bytes.now)) e) ∙ c.read_entry-segment.ensures in
    let all = entries_more c.args.bytes.now c.loop-i.segments.items c.loop-i.keys.items c.loop-i.i c.read_entry-segment.result.0 c.read_entry-segment.result.1 done.0 done.1 done.2 here in (
      ap length c.in_ok-push.ensures.items ∙ length-append c.loop-i.segments.items (c.read_entry-segment.result.0 ∷ []) ∙ ap (λ n. n + 1) done.0,
      ap length c.in_ok-push-2.ensures.items ∙ length-append c.loop-i.keys.items (c.read_entry-segment.result.1 ∷ []) ∙ ap (λ n. n + 1) done.1,
      all ∙ sym (λ i. entries_text (zip (c.in_ok-push.ensures.items i) (c.in_ok-push-2.ensures.items i))),
    )
