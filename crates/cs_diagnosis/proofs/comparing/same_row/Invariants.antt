use Rattle.std.proofs.Common.{◌≡◌, ℕ, ◌<◌, Some}
use Rattle.std.specs.List.{slice_get}
use Rattle.cs_schema.specs.declared.cells.Cells.{Cells}
use Rattle.cs_schema.specs.Values.{values}
use Rattle.cs_diagnosis.proofs.comparing.same_row.Given as goal

-- the columns so far have the same cells
abbrev pub invariant-loop-c : goal.invariant-loop-c
invariant-loop-c l = (c : ℕ) (x y : Cells) → c < l.c → slice_get l.first c ≡ Some x → slice_get l.second c ≡ Some y → slice_get (values x) l.i ≡ slice_get (values y) l.j
