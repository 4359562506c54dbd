use Rattle.cs_digests.proofs.LaneLemmas.{below_four}
use Rattle.cs_digests.proofs.schedule.words_at.Goals as goal

pub returns : goal.returns
returns c = below_four _ c.word_at.ensures c.word_at-2.ensures c.word_at-3.ensures c.word_at-4.ensures
