-- Looks at what stands at paths.
use Rattle.std.specs.Prelude.{ℕ, List, Bool, false, true}
use Rattle.cs_file_system.specs.Calls.{Adds, Calls, IsNoMore, miss, same, see}
use Rattle.cs_file_system.specs.declared.standing.Standing.{Standing}
use Rattle.cs_file_system.specs.declared.standing.Standing.TheVariants.{Nothing}

-- something was seen at the path, or nothing
abbrev pub IsSeen : Standing → List ℕ → (old new : Calls → Type 0) → Type 0
IsSeen Nothing path old new = Adds (miss path) old new
IsSeen _ path old new = Adds (see path) old new

-- what stands at two paths was found to be the same, or not
abbrev pub AreCompared : Bool → (path other : List ℕ) → (old new : Calls → Type 0) → Type 0
AreCompared true path other old new = Adds (same path other) old new
AreCompared false path other old new = IsNoMore old new
