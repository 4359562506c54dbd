use Rattle.std.proofs.Common.{◌≡◌, map, take}
use Rattle.cs_digests.proofs.digests.chains_of.Given as goal

-- the messages so far
abbrev pub invariant-loop-text : goal.invariant-loop-text
invariant-loop-text l = map (λ c. c.text.now) l.chains.items ≡ map (λ t. t.now) (take l.text-index l.texts)
