-- Paths that verbs take.
use Rattle.std.specs.Prelude.{◌≢◌, ◌-◌, ℕ, Bool, false, List, [], length, Option, Some, None, IfSome, slice_get, codes, if◌then◌else◌}
use Rattle.std.specs.Option.{option_map_or}
use Rattle.std.specs.Str.{bytes_eq}

-- no path was given, or one that is not empty
abbrev pub IsPath : Option (List ℕ) → Type 0
IsPath given = IfSome given (λ path. path ≢ [])

-- no path was given, or one that is not empty and does not end with a slash
abbrev pub IsFilePath : Option (List ℕ) → Type 0
IsFilePath given = IfSome given (λ path. (path ≢ []) × (slice_get path (length path - 1) ≢ Some 47))

-- what is written goes to standard output
abbrev pub is_output : Option (List ℕ) → Bool
is_output given = option_map_or (λ path. bytes_eq path (codes "-")) given false

-- the file that is written
abbrev pub file_in : Option (List ℕ) → Option (List ℕ)
file_in given = if is_output given then None else given
