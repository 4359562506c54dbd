-- What is said of each file of a store.
use Rattle.std.specs.Prelude.{◌≡◌, List, [], map, length, MatchOption}
use Rattle.std.specs.List.Sorted.{IsStrictlySortedBy}
use Rattle.std.specs.Option.{option_map}
use Rattle.cs_schema.specs.CatalogData.{CatalogData}
use Rattle.cs_schema.specs.FileNames.{FileContents, name_cmp, surviving}
use Rattle.cs_schema.specs.Lists.{IsIn}
use Rattle.cs_schema.specs.declared.file_name.FileName.{FileName}
use Rattle.cs_inspection.specs.BadFiles.{IsListed}
use Rattle.cs_inspection.specs.declared.badness.Badness.{Badness}
use Rattle.pinepolo_answers.specs.declared.file_lines.FileLine.{FileLine}

-- each once, in the order of their names
abbrev pub AreInOrder : List (FileName × Badness) → Type 0
AreInOrder bad = IsStrictlySortedBy name_cmp (map (λ b. b.0) bad)

-- why the file is bad, if it is listed as bad; and how many bytes it has, if it was read
pub record IsLine (F : FileContents) (bad : List (FileName × Badness)) (line : FileLine) : Type 0 where
  pub badness : MatchOption line.badness (¬ IsListed line.name bad) (λ why. IsIn (line.name, why) bad)
  pub bytes : line.bytes ≡ option_map length (F line.name)

-- a line for each file of the catalog, in the order of their names
pub record AreLines (C : CatalogData) (F : FileContents) (bad : List (FileName × Badness)) (lines : List FileLine) : Type 0 where
  pub names : map (λ line. line.name) lines ≡ surviving C []
  pub each : (line : FileLine) → IsIn line lines → IsLine F bad line
