-- The files of all names but one.
use Rattle.std.specs.Prelude.{◌≡◌, ℕ, List, Option, Some, None, if◌then◌else◌}
use Rattle.std.specs.Option.{option_or}
use Rattle.std.specs.Ordering.{eq_by_cmp}
use Rattle.cs_schema.specs.declared.file_name.FileName.{FileName}
use Rattle.cs_schema.specs.FileNames.{name_cmp}
use Rattle.cs_store.specs.FileSet.{contents_of}
use Rattle.cs_shelf.specs.declared.memory.rest.Rest.{Rest}

-- what a file brings to a name, but to the one that is gone
abbrev pub brought : FileName → FileName → Option (List ℕ) → Option (List ℕ)
brought gone n file = if eq_by_cmp name_cmp n gone then None else file

-- each name has what it had, or what the file brings
pub record AddsUnlessGone (s : Rest) (name : FileName) (bytes : List ℕ) (t : Rest) : Type 0 where
  pub gone : t.gone ≡ s.gone
  pub files : (n : FileName) → contents_of t.files n ≡ option_or (contents_of s.files n) (brought s.gone n (if eq_by_cmp name_cmp n name then Some bytes else None))
