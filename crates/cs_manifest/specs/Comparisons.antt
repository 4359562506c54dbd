-- How the files of a store differ from what a manifest says of them.
use Rattle.std.specs.Prelude.{◌≡◌, ℕ, List, Option, None, Some, if◌then◌else◌}
use Rattle.std.specs.List.{filter_map}
use Rattle.std.specs.Option.{option_map}
use Rattle.std.specs.Str.{bytes_eq}
use Rattle.cs_schema.specs.FileNames.{file_path}
use Rattle.cs_schema.specs.declared.file_name.FileName.{FileName}
use Rattle.cs_manifest.specs.Lines.{catalog_path}
use Rattle.cs_manifest.specs.Reading.{digest_in}
use Rattle.cs_manifest.specs.declared.comparing.Comparison.{Comparison}
use Rattle.cs_manifest.specs.declared.comparing.Difference.{Difference}
use Rattle.cs_manifest.specs.declared.comparing.Difference.TheVariants as is
use Rattle.cs_manifest.specs.declared.digesting.Digested.{Digested}
use Rattle.cs_manifest.specs.declared.digesting.Digested.TheVariants as came_to
use Rattle.cs_manifest.specs.declared.manifest.Manifest.{Manifest}

-- how what a file came to differs from the digest that is wanted, if at all
abbrev pub how_differs : Option (List ℕ) → Digested → Option Difference
how_differs wanted came_to.Missing = Some is.Missing
how_differs wanted came_to.Unreadable = Some is.Unreadable
how_differs None (came_to.Found digest) = Some is.NotNamed
how_differs (Some wanted) (came_to.Found digest) = if bytes_eq wanted digest then None else Some is.Changed

-- how a file differs from what a manifest says of its path, if at all
abbrev pub file_difference : Manifest → FileName × Digested → Option (FileName × Difference)
file_difference m file = option_map (λ how. (file.0, how)) (how_differs (digest_in m (file_path file.0)) file.1)

-- how the catalog, which has this digest, and the files differ from what a manifest says of their paths; these files and no others
pub record AreDifferences (m : Manifest) (catalog : List ℕ) (files : List (FileName × Digested)) (found : Comparison) : Type 0 where
  pub catalog_is : found.catalog ≡ how_differs (digest_in m catalog_path) (came_to.Found catalog)
  pub files_are : found.files.items ≡ filter_map (file_difference m) files
