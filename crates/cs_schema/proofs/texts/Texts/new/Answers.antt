use Rattle.std.proofs.Common.{[], List, ℕ, ◌≡◌}
use Rattle.cs_schema.specs.Blocks.{IsBlockOf}
use Rattle.cs_schema.proofs.Blocks.{block-none, block_of, pieces_of}
use Rattle.cs_schema.proofs.texts.Texts.new.Goals as goal

none : (b e : List ℕ) → b ≡ [] → e ≡ [] → IsBlockOf [] b e
none b e h k = rw (h, k) block-none

pub invariant_of-result : goal.invariant_of-result
invariant_of-result c = block_of [] c.new.result.items c.new-2.result (none _ _ c.new.ensures.items c.new-2.ensures)

pub returns : goal.returns
returns c = pieces_of [] c.new.result.items c.new-2.result (none _ _ c.new.ensures.items c.new-2.ensures)
