use Rattle.std.proofs.Common.{◌≡◌, ◌-◌, length, map, take}
use Rattle.cs_segment.proofs.seal.texts_of.Given as goal

abbrev pub invariant-loop-file : goal.invariant-loop-file
invariant-loop-file l = map (λ t. t.now) l.texts.items ≡ map (λ f. take (length f.now - 32) f.now) (take l.file-index l.files)
