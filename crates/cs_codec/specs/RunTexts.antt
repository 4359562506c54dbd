-- Runs as bytes.
use Rattle.std.specs.Prelude.{◌≡◌, ℕ, ◌-◌, ◌^◌, ◌<◌, ◌≤◌, Bool, List, [], ◌∷◌, ◌++◌, length, drop, slice_get}
use Rattle.cs_codec.specs.Cells.{number}
use Rattle.cs_codec.specs.Runs.{Run, expand, IsProper, written_from}
use Rattle.cs_codec.specs.Runs.{RunsHold}

-- the run is encoded at offset `start` of `text`, with this position, up to offset `end`
pub record RunStandsAt {C : Type 0} (bytes : C → List ℕ) (is_cell : C → Type 0) (text : List ℕ) (start : ℕ) (run : Run C) (position end : ℕ) : Type 0 where
  pub holds : is_cell run.value
  pub position_fits : position < 2 ^ 32
  pub count_fits : run.count < 2 ^ 32
  pub parts : drop start text ≡ (bytes run.value ++ number position ++ number run.count) ++ drop end text
  pub later : start < end
  pub within : end ≤ length text

-- no run is encoded at offset `start` of `text`
abbrev pub NoRunStandsAt : {C : Type 0} → (C → List ℕ) → (C → Type 0) → List ℕ → ℕ → Type 0
NoRunStandsAt {C} bytes is_cell text start = (run : Run C) (position : ℕ) (rest : List ℕ) → is_cell run.value → position < 2 ^ 32 → run.count < 2 ^ 32 → drop start text ≡ (bytes run.value ++ number position ++ number run.count) ++ rest → ⊥

-- `text` is the bytes of these runs, which have `rows` cells
pub record AreRunsOf {C : Type 0} (bytes : C → List ℕ) (is_cell : C → Type 0) (eq : C → C → Bool) (text : List ℕ) (rows : ℕ) (runs : List (Run C)) : Type 0 where
  pub text_is : text ≡ written_from bytes 1 runs
  pub rows_are : length (expand runs) ≡ rows
  pub proper : IsProper eq runs
  pub hold : RunsHold is_cell runs

-- a run is encoded at offset `start` of `text`, and its value was appended
pub record ReadsRun {C : Type 0} (bytes : C → List ℕ) (is_cell : C → Type 0) (text : List ℕ) (start : ℕ) (before after : List C) (position count end : ℕ) : Type 0 where
  pub value : C
  pub added : after ≡ before ++ value ∷ []
  pub stands : RunStandsAt bytes is_cell text start (record { value = value; count = count }) position end

-- the cell at an index differs from the cell before it, if there is one
abbrev pub Differs : {C : Type 0} → List C → ℕ → Type 0
Differs cells at = 0 < at → slice_get cells (at - 1) ≡ slice_get cells at → ⊥

-- the cells are those of the runs before offset `at` of `text`
pub record HasRead {C : Type 0} (bytes : C → List ℕ) (is_cell : C → Type 0) (eq : C → C → Bool) (text : List ℕ) (rows at : ℕ) (cells : List C) : Type 0 where
  pub runs : List (Run C)
  pub cells_are : expand runs ≡ cells
  pub written : text ≡ written_from bytes 1 runs ++ drop at text
  pub proper : IsProper eq runs
  pub hold : RunsHold is_cell runs
  pub few : length cells ≤ rows
  pub within : at ≤ length text
