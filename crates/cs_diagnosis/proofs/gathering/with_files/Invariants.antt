use Rattle.std.proofs.Common.{◌↔◌, ◌≡◌, ℕ, ◌<◌, Some}
use Rattle.std.specs.List.{slice_get}
use Rattle.cs_schema.specs.Losses.{Sites}
use Rattle.cs_diagnosis.specs.Pairs.{IsHit}
use Rattle.cs_diagnosis.specs.Conflicts.{AreAllHit}
use Rattle.cs_diagnosis.proofs.gathering.with_files.Given as goal

-- the conflicts of the files so far are among them
abbrev pub invariant-loop-file : goal.invariant-loop-file
invariant-loop-file l = (L : Sites) → AreAllHit l.all L ↔ (AreAllHit l.fn.conflicts L × ((k : ℕ) (c : ℕ × Sites) → k < l.file-index → slice_get l.files k ≡ Some c → IsHit L c))
