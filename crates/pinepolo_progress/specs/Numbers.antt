-- The numbers of stages.
use Rattle.std.specs.Prelude.{ℕ}
use Rattle.cs_board.specs.declared.round.Round.TheVariants.{Files, Walk, Images, Joins, Columns}
use Rattle.pinepolo_progress.specs.declared.stage.Stage.{Stage}
use Rattle.pinepolo_progress.specs.declared.stage.Stage.TheVariants.{Reading, Table, Inspecting, Writing, Keeping, Round}

-- each stage has one
abbrev pub number_of : Stage → ℕ
number_of Reading = 0
number_of Inspecting = 1
number_of Writing = 2
number_of (Round Files) = 3
number_of (Round Walk) = 4
number_of (Round Images) = 5
number_of (Round Joins) = 6
number_of (Round Columns) = 7
number_of Table = 8
number_of Keeping = 9
