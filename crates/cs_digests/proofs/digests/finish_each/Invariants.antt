use Rattle.std.proofs.Common.{◌≡◌, map, take}
use Rattle.sha2.specs.Sha256.{sha256}
use Rattle.cs_digests.proofs.digests.finish_each.Given as goal

-- the digests so far
abbrev pub invariant-loop-chain : goal.invariant-loop-chain
invariant-loop-chain l = l.digests.items ≡ map (λ c. sha256 c.text.now) (take l.chain-index l.chains)
