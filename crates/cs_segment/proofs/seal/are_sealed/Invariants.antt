use Rattle.std.proofs.Common.{◌≡◌, ℕ, ◌<◌, List, Bor, Some, true}
use Rattle.std.specs.List.{slice_get}
use Rattle.cs_segment.specs.Bodies.{IsSealed}
use Rattle.cs_segment.proofs.seal.are_sealed.Given as goal

-- the files before the i-th are sealed
abbrev pub invariant-loop-i : goal.invariant-loop-i
invariant-loop-i l = (k : ℕ) (f : Bor (List ℕ)) → k < l.i → slice_get l.files k ≡ Some f → IsSealed f.now true
