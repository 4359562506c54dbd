use Rattle.cs_rebuild.proofs.reading.read_segments.Goals as goal

pub invariant_of-work : goal.invariant_of-work
invariant_of-work g c = record { rules = c.projection_count-rules.ensures.rules; few = c.requires.few; exist = c.requires.exist }
