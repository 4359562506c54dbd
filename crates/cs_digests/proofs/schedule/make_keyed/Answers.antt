use Rattle.cs_digests.proofs.schedule.make_keyed.Goals as goal

pub returns : goal.returns
returns c j low = c.add_keys.ensures _ j low (c.make_words.ensures j low)
