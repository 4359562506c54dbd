use Rattle.std.proofs.Common.{◌++◌, sym, ap, ◌∙◌, take, get_or, append_assoc}
use Rattle.std.proofs.lemmas.List.{take_more}
use Rattle.cs_jix.specs.JoinIndex.{Place}
use Rattle.cs_segment.specs.Bytes.{be16, be32}
use Rattle.cs_jix.specs.Entries.{entry_text, entries_text}
use Rattle.cs_jix.proofs.JoinLemmas.{concat_push}
use Rattle.cs_jix.proofs.writing.write_entries.Goals as goal

pub loop-entry-preserved : goal.loop-entry-preserved
loop-entry-preserved c =
    let e : Place = get_or c.args.entries.now c.loop-entry.entry-index (0, 0) in
    c.in_ok-extend_from_slice-2.ensures.items
    ∙ (λ i. c.in_ok-extend_from_slice.ensures.items i ++ c.to_be_bytes-in-loop-entry.ensures i)
    ∙ (λ i. (c.loop-entry.invariant i ++ c.to_be_bytes.ensures i) ++ be32 e.1)
    ∙ append_assoc (c.args.text.now.items ++ entries_text (take c.loop-entry.entry-index c.args.entries.now)) (be16 e.0) (be32 e.1)
    ∙ append_assoc c.args.text.now.items (entries_text (take c.loop-entry.entry-index c.args.entries.now)) (entry_text e)
    ∙ ap (λ l. c.args.text.now.items ++ l) (sym (concat_push (take c.loop-entry.entry-index c.args.entries.now) e) ∙ ap entries_text (sym (take_more c.args.entries.now c.loop-entry.entry-index (0, 0) c.loop-entry-test.true)))
