use Rattle.std.proofs.Common.{◌≤◌, take, length}
use Rattle.cs_rows.specs.RowSteps.{landings_of}
use Rattle.cs_rows.proofs.LevelLemmas.{Entered}
use Rattle.cs_rows.proofs.levels.enter_all.Given as goal

abbrev pub invariant-loop-q : goal.invariant-loop-q
invariant-loop-q l = (length l.fn.reached.items ≤ length l.reached.items) × Entered l.fn.reached.items l.fn.marked.items l.reached.items l.marked.items (landings_of (take l.q-index l.landings))
